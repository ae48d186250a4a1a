use Rattle.std.specs.Prelude.{◌∷◌}
use Rattle.device.specs.Memory.DiskChange.{write}
use Rattle.deferred_disk.proofs.Pasts.{only}
use Rattle.deferred_disk.proofs.past.Past.with_write.Given as goal

abbrev pub ghost-holding : goal.ghost-holding
ghost-holding a =
    let before = only a._before.now in (
      before.first,
      (write a._number.now a._bytes.now ∷ before.changes, before.supplied),
    )
