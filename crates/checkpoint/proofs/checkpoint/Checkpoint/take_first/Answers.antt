use Rattle.std.proofs.Common.{ap, subst}
use Rattle.checkpoint.specs.Checkpoint.{CheckpointState, AreRising}
use Rattle.checkpoint.proofs.Searches.{AreRising-drop}
use Rattle.checkpoint.proofs.checkpoint.Checkpoint.take_first.Goals as goal

pub returns-clause-rising : goal.returns-clause-rising
returns-clause-rising g c = subst AreRising (ap (λ (s : CheckpointState). s.frozen) c.self.view_is)
    (AreRising-drop c.self.inside.released c.self.inside.pages.items c.self.invariant.rising)
