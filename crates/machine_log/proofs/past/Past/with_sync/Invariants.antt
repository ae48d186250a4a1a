use Rattle.std.specs.Prelude.{◌+◌, ◌∷◌, length}
use Rattle.device.specs.Memory.DiskChange.{sync}
use Rattle.machine_log.proofs.Pasts.{only}
use Rattle.machine_log.proofs.past.Past.with_sync.Given as goal

abbrev pub ghost-holding : goal.ghost-holding
ghost-holding g a =
    let before = only a._before.now in (
      before.first,
      (sync ∷ before.changes, (length before.changes + 1, g.moment) ∷ before.moments),
    )
