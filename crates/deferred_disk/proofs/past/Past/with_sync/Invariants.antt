use Rattle.std.specs.Prelude.{◌∷◌}
use Rattle.device.specs.Memory.DiskChange.{sync}
use Rattle.deferred_disk.proofs.Pasts.{only}
use Rattle.deferred_disk.proofs.past.Past.with_sync.Given as goal

abbrev pub ghost-holding : goal.ghost-holding
ghost-holding a = let before = only a._before.now in (before.first, (sync ∷ before.changes, before.supplied))
