use Rattle.driver.specs.Programs.{MakesCalls, IsUpkeep}
use Rattle.driver.proofs.acts.ready.Given as goal

abbrev pub invariant-loop : goal.invariant-loop
invariant-loop g l =
    (goal.iterator-loop g).can_next l.iterator' × (goal.iterator-loop g).is_finite l.iterator'
    × MakesCalls IsUpkeep l.fn.cpu l.cpu
