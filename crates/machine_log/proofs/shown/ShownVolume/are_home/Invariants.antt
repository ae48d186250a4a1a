use Rattle.machine_log.specs.inside.Closing.{AreHomeUpTo}
use Rattle.machine_log.proofs.shown.ShownVolume.are_home.Given as goal

abbrev pub invariant-loop-place : goal.invariant-loop-place
invariant-loop-place g l = AreHomeUpTo l.self l.newer l.oldest l.place
