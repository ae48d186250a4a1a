use Rattle.std.proofs.Common.{◌∙◌, sym, subst, List, length, arith}
use Rattle.device.specs.Memory.{DiskChange}
use Rattle.device.specs.inside.Logged.{changes_of}
use Rattle.device.specs.inside.Replay.{AreWithin}
use Rattle.device.proofs.Outcomes.{on_ok}
use Rattle.device.proofs.Overlays.{length_of_overlay}
use Rattle.device.proofs.overlay.OverlayDiskDevice.write.Goals as goal

pub invariant_of-self-else-is_err : goal.invariant_of-self-else-is_err
invariant_of-self-else-is_err g c =
    let disk = c.self.inside in
    let long = length_of_overlay g.D.Device.seen c.args.self.now disk.inner
    (changes_of disk.log.items) disk.refused disk.calls disk.faults c.self.view_is c.self.invariant in
    let more = on_ok c.log_write.result (sym c.is_err.ensures.value ∙ c.if-is_err.false) c.log_write.ensures.ok in
    subst (λ (l : List DiskChange). AreWithin (length (g.D.Device.seen disk.inner)) l) (sym more)
    (omega (arith, long, c.requires), c.self.invariant)
