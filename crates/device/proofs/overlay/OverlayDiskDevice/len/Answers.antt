use Rattle.std.proofs.Common.{◌∙◌, sym}
use Rattle.device.specs.inside.Logged.{changes_of}
use Rattle.device.proofs.Overlays.{length_of_overlay}
use Rattle.device.proofs.overlay.OverlayDiskDevice.len.Goals as goal

pub returns : goal.returns
returns g c =
    let disk = c.self.inside in
    c.len.ensures ∙ sym (length_of_overlay g.D.Device.seen c.args.self.now disk.inner
    (changes_of disk.log.items) disk.refused disk.calls disk.faults c.self.view_is c.self.invariant)
