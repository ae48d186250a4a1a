use Rattle.embedded.specs.Steps.{MakesSteps, AnyStep}
use Rattle.embedded.proofs.steps.write_out.Given as goal

abbrev pub invariant-loop : goal.invariant-loop
invariant-loop g l = MakesSteps AnyStep l.initial.pager l.counter l.pager
