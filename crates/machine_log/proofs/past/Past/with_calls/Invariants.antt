use Rattle.std.specs.Prelude.{◌∷◌, length}
use Rattle.machine_log.proofs.Pasts.{only}
use Rattle.machine_log.proofs.past.Past.with_calls.Given as goal

abbrev pub ghost-holding : goal.ghost-holding
ghost-holding g a =
    let before = only a._before.now in
    (before.first, (before.changes, (length before.changes, g.moment) ∷ before.moments))
