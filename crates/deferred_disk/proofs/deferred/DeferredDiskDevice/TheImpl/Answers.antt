use Rattle.std.proofs.Common.{ap, rules}
use Rattle.device.proofs.Public.{ok_map, err_map, write_told, sync_told}
use Rattle.deferred_disk.specs.Deferred.{as_memory}
use Rattle.deferred_disk.proofs.deferred.DeferredDiskDevice.TheImpl.Goals as goal

pub write-tells : goal.write-tells
write-tells g c =
    let told = write_told as_memory c.result c.args.self.now c.new.self.now c.args.at c.args.bytes.now c.requires
    (ok_map c.result (ap as_memory) c.ensures.recorded) (err_map c.result (ap as_memory) c.ensures.refused) in
    search (rules, told.0, told.1.0, told.1.1.0, told.1.1.1)

pub sync-tells : goal.sync-tells
sync-tells g c =
    let told = sync_told as_memory c.result c.args.self.now c.new.self.now
    (ok_map c.result (ap as_memory) c.ensures.recorded) (err_map c.result (ap as_memory) c.ensures.refused) in
    search (rules, told.0, told.1)
