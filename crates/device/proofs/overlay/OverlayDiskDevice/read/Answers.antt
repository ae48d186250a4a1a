use Rattle.std.proofs.Common.{◌≤◌, ◌-◌, ◌^◌, List, length, ap, subst, sym, arith}
use Rattle.device.specs.declared.log.Logged.{Logged}
use Rattle.device.specs.Overlay.{Overlaid}
use Rattle.device.specs.inside.Logged.{changes_of}
use Rattle.device.specs.inside.Replay.{AreWithin}
use Rattle.device.proofs.Overlays.{Patches, length_of_overlay, read_and_patched, passed_on}
use Rattle.device.proofs.Patches.{within_wider}
use Rattle.device.proofs.overlay.OverlayDiskDevice.read.Goals as goal

pub read-outcome-requires : goal.read-outcome-requires
read-outcome-requires g c =
    let disk = c.self.inside in
    omega (
      arith,
      c.requires,
      length_of_overlay g.D.Device.seen c.args.self.now disk.inner
          (changes_of disk.log.items) disk.refused disk.calls disk.faults c.self.view_is c.self.invariant,
    )

pub patch_all-requires-clause-fits : goal.patch_all-requires-clause-fits
patch_all-requires-clause-fits g c =
    let disk = c.self.inside in
    omega (
      arith,
      c.requires,
      c.len.ensures,
      c.len.type_inv,
      c.read-outcome.auto.buffer,
      length_of_overlay g.D.Device.seen c.args.self.now disk.inner
          (changes_of disk.log.items) disk.refused disk.calls disk.faults c.self.view_is c.self.invariant,
    )

pub patch_all-requires-clause-within : goal.patch_all-requires-clause-within
patch_all-requires-clause-within g c =
    let disk = c.self.inside in
    let P : List (Logged g.row.A.Denot) → Type 0 = λ l. AreWithin (2 ^ 64 - 1) (changes_of l) in
    let small : length (g.D.Device.seen disk.inner) ≤ 2 ^ 64 - 1 = omega (arith, c.len.ensures, c.len.type_inv) in
    subst P (sym c.deref.ensures.value) (within_wider (length (g.D.Device.seen disk.inner)) (2 ^ 64 - 1)
    (changes_of disk.log.items) small c.self.invariant)

pub returns-clause-bytes : goal.returns-clause-bytes
returns-clause-bytes g c = λ honest.
    let disk = c.self.inside in
    let inner = ap (λ (d : Overlaid _). d.inner) c.self.view_is in
    let changes = changes_of disk.log.items in
    let buffer = c.read-outcome.new.buffer in
    let patches = subst (λ (l : List (Logged g.row.A.Denot)). Patches buffer c.patch_all.new.buffer c.args.at
    (length buffer) (changes_of l)) c.deref.ensures.value c.patch_all.ensures in
    read_and_patched g.D.Device.seen c.count.result c.read-outcome.result c.args.self.now disk.inner changes
    disk.refused disk.calls disk.faults c.args.at (length c.args.buffer.now)
    (length buffer) buffer c.patch_all.new.buffer
    c.self.view_is c.self.invariant c.requires c.read-outcome.auto.buffer c.count.ensures.same patches
    (c.read-outcome.ensures.bytes (subst g.D.Device.is_honest (sym inner) honest))

pub returns-clause-passed : goal.returns-clause-passed
returns-clause-passed g c =
    passed_on (ap (λ (d : Overlaid _). d.inner) c.self.view_is)
    (sym (ap (λ (d : Overlaid _). d.inner) c.count.ensures.counted)) (sym c.count.ensures.same)
    (record {
      calls = c.read-outcome.ensures.calls;
      failed = c.read-outcome.ensures.failed;
      done = c.read-outcome.ensures.done;
    })
