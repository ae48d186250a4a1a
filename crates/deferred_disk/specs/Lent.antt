-- A call that a disk lends to its host, as a recorded change.
use Rattle.device.specs.Memory.{DiskChange}
use Rattle.device.specs.Memory.DiskChange.{write, sync}
use Rattle.deferred_disk.specs.declared.deferred.DeferredCall.{DeferredCall}
use Rattle.deferred_disk.specs.declared.deferred.DeferredCall.TheVariants.{Write, Sync}

abbrev pub change_lent : DeferredCall → DiskChange
change_lent (Write at bytes) = write at bytes.now
change_lent Sync = sync
