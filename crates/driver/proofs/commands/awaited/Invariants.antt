use Rattle.std.proofs.Common.{◌≡◌}
use Rattle.machine.specs.declared.act.Act.TheVariants as acts
use Rattle.driver.specs.Programs.{MakesCalls, IsAwaitAttempt}
use Rattle.driver.proofs.commands.awaited.Given as goal

abbrev pub invariant-loop : goal.invariant-loop
invariant-loop g l =
    (goal.iterator-loop g).can_next l.iterator' × (goal.iterator-loop g).is_finite l.iterator'
    × (l.load ≡ acts.Load l.va 1) × MakesCalls (IsAwaitAttempt l.va l.byte) l.fn.cpu l.cpu
