use Rattle.std.proofs.Common.{ℕ, ◌≡◌, false}
use Rattle.embedded.specs.Steps.{MakesSteps, Without}
use Rattle.embedded.specs.inside.Awaiting.{EndsAwaiting}
use Rattle.embedded.proofs.Left.{left_of}
use Rattle.embedded.proofs.steps.write_until.Given as goal

abbrev pub invariant-loop-answer : goal.invariant-loop-answer
invariant-loop-answer g l = ((n : ℕ) × MakesSteps (Without l.mark) l.initial.pager n l.pager)
    × (l.pager.write_outs.broken ≡ false) × EndsAwaiting l.mark l.pager.write_outs.batches

abbrev pub decreases-loop-answer : goal.decreases-loop-answer
decreases-loop-answer g l = left_of l.pager
