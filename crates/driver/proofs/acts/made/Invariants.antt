use Rattle.driver.specs.Programs.{MakesCalls, IsAttempt}
use Rattle.driver.proofs.acts.made.Given as goal

abbrev pub invariant-loop : goal.invariant-loop
invariant-loop g l =
    (goal.iterator-loop g).can_next l.iterator' × (goal.iterator-loop g).is_finite l.iterator'
    × MakesCalls (IsAttempt l.act) l.fn.cpu l.cpu
