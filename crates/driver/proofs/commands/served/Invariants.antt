use Rattle.std.specs.Prelude.{Ok}
use Rattle.driver.specs.Programs.{IsAccessReply}
use Rattle.driver.specs.inside.Working.{ComesTo}
use Rattle.driver.proofs.commands.served.Given as goal

abbrev pub invariant-loop : goal.invariant-loop
invariant-loop g l =
    (goal.iterator-loop g).can_next l.iterator' × (goal.iterator-loop g).is_finite l.iterator'
    × ComesTo IsAccessReply l.act (Ok l.answer) l.fn.cpu l.cpu
