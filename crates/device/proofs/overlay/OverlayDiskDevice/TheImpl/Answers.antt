use Rattle.std.proofs.Common.{ap, rules}
use Rattle.device.specs.Overlay.{as_recorded}
use Rattle.device.proofs.Outcomes.{ok_map, err_map}
use Rattle.device.proofs.Overlays.{write_told, sync_told}
use Rattle.device.proofs.overlay.OverlayDiskDevice.TheImpl.Goals as goal

pub write-tells : goal.write-tells
write-tells g c =
    let recorded = as_recorded g.D.Device.seen in
    let told = write_told recorded c.result c.args.self.now c.new.self.now c.args.at c.args.bytes.now c.requires
    (ok_map c.result (ap recorded) c.ensures.recorded) (err_map c.result (ap recorded) c.ensures.refused) in
    search (rules, told.0, told.1.0, told.1.1.0, told.1.1.1)

pub sync-tells : goal.sync-tells
sync-tells g c =
    let recorded = as_recorded g.D.Device.seen in
    let told = sync_told recorded c.result c.args.self.now c.new.self.now
    (ok_map c.result (ap recorded) c.ensures.recorded) (err_map c.result (ap recorded) c.ensures.refused) in
    search (rules, told.0, told.1)
