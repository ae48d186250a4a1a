use Rattle.std.specs.Prelude.{◌+◌, ◌∷◌, length}
use Rattle.device.specs.Memory.DiskChange.{write}
use Rattle.machine_log.proofs.Pasts.{only}
use Rattle.machine_log.proofs.past.Past.with_write.Given as goal

abbrev pub ghost-holding : goal.ghost-holding
ghost-holding g a =
    let before = only a._before.now in (
      before.first,
      (write a._number.now a._bytes.now ∷ before.changes, (length before.changes + 1, g.moment) ∷ before.moments),
    )
