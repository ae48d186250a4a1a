use Rattle.std.proofs.Common.{ℕ}
use Rattle.embedded.specs.Steps.{MakesSteps, WhileBusy}
use Rattle.embedded.proofs.Left.{left_of}
use Rattle.embedded.proofs.steps.begin.Given as goal

abbrev pub invariant-loop-pager : goal.invariant-loop-pager
invariant-loop-pager g l = (waits : ℕ) × MakesSteps WhileBusy l.initial.pager waits l.pager

abbrev pub decreases-loop-pager : goal.decreases-loop-pager
decreases-loop-pager g l = left_of l.pager
