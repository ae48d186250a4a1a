use Rattle.std.proofs.Common.{◌≡◌, ◌*◌, ◌<◌, ◌^◌, length, subst, ◌∙◌}
use Rattle.device.specs.Memory.{seen_of}
use Rattle.device.proofs.Public.{length-content_after}
use Rattle.volume_codec.specs.Super.{block_count}
use Rattle.machine_log.specs.Disk.{LogDiskValue}
use Rattle.machine_log.proofs.parts.DiskParts.is_long.Goals as goal

pub returns-clause-long : goal.returns-clause-long
returns-clause-long g c =
    let d = c.self.inside in
    subst (λ (d : LogDiskValue _). length (seen_of d.memory) ≡ 4096 * block_count d.table) c.self.view_is
    (length-content_after d.past.first d.past.changes c.self.invariant.within ∙ c.self.invariant.long)

pub returns-clause-small : goal.returns-clause-small
returns-clause-small g c =
    subst (λ (d : LogDiskValue _). block_count d.table < 2 ^ 32) c.self.view_is c.self.invariant.table.fits.few_blocks
