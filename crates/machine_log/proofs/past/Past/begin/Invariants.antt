use Rattle.std.specs.Prelude.{[], ◌∷◌}
use Rattle.machine_log.proofs.past.Past.begin.Given as goal

abbrev pub ghost-holding : goal.ghost-holding
ghost-holding g a = (g.began.0, ([], (0, g.began.1) ∷ []))
