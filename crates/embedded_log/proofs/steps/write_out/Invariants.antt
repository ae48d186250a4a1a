use Rattle.embedded_log.specs.Steps.{MakesLogSteps, AnyLogStep}
use Rattle.embedded_log.specs.inside.Leading.{LeadsLog}
use Rattle.embedded_log.proofs.steps.write_out.Given as goal

abbrev pub invariant-loop : goal.invariant-loop
invariant-loop g l = MakesLogSteps AnyLogStep l.initial.files l.counter l.files × LeadsLog l.initial.files l.files
