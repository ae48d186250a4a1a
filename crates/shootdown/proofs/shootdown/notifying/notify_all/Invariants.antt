use Rattle.std.proofs.Common.{◌≡◌, ◌++◌, map, take, drop}
use Rattle.shootdown.specs.Processors.{notified}
use Rattle.shootdown.proofs.shootdown.notifying.notify_all.Given as goal

-- the processors below are notified
abbrev pub invariant-loop-processor : goal.invariant-loop-processor
invariant-loop-processor g l =
    l.processors ≡ map (λ x. notified x l.action) (take l.processor-index l.initial.processors)
    ++ drop l.processor-index l.initial.processors
