use Rattle.shootdown.specs.inside.Notifying.{state_begun}
use Rattle.shootdown.proofs.Each.{IsMadeUpTo}
use Rattle.shootdown.proofs.shootdown.notifying.interrupt.Given as goal

-- the processors below are in their new states
abbrev pub invariant-loop-i : goal.invariant-loop-i
invariant-loop-i g l = IsMadeUpTo (λ k x. record x { state = state_begun l.p l.spaces.map l.change k x }) l.i
    l.initial.processors l.processors
