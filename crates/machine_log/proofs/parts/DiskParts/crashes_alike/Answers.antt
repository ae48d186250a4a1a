use Rattle.std.proofs.Common.{◌≡◌, refl, subst}
use Rattle.volume_codec.proofs.Public.{fits_geometry}
use Rattle.volume_codec.specs.Super.{geometry_of}
use Rattle.log_codec.specs.declared.sealing.Sealing.{Sealing}
use Rattle.log_codec.specs.declared.sealing.Sealing.TheVariants.{ByByte, ByDigest}
use Rattle.machine_log.specs.Disk.{LogDiskValue}
use Rattle.machine_log.specs.Laws.{StandsSince}
use Rattle.machine_log.specs.inside.Keeping.{changed}
use Rattle.machine_log.proofs.Crashing.{stands_since, stands_told}
use Rattle.machine_log.proofs.parts.DiskParts.crashes_alike.Goals as goal

by_sealing : {P : Type 0} (sealing : Sealing) → (sealing ≡ ByByte → P) → ((key : _) → sealing ≡ ByDigest key → P) → P
by_sealing ByByte byte digest = byte refl
by_sealing (ByDigest key) byte digest = digest key refl

pub returns : goal.returns
returns g c =
    let d = c.self.inside in
    let k = c.self.invariant in
    let value : LogDiskValue _ = record {
      device = d.pager.device;
      volume = d.volume;
      table = d.table;
      log_start = d.log_start;
      memory = record (changed d.past.first d.past.changes) { calls = d.calls; faults = d.faults };
      moments = d.past.moments;
    } in
    let one = c.one_reading.ensures in
    subst (λ (d : LogDiskValue _). g.D.Device.is_honest d.device → (old : _) → StandsSince g.D.Device old d)
    c.self.view_is (λ honest old. by_sealing d.volume.sealing
    (λ byte. stands_since g.D.Device one.contents one.files value k.fits k.table k.moments_are
    (k.backed (honest, byte)) old)
    (λ key digest. stands_told g.D.Device one.contents one.files value refl
    (λ d e bytes. one.descriptors (geometry_of value.table) d e bytes (fits_geometry value.table k.table.fits))
    k.fits k.table k.moments_are k.followed (k.held honest) key digest old))
