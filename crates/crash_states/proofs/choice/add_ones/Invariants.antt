use Rattle.std.proofs.Common.{◌≡◌, ◌++◌}
use Rattle.crash_states.specs.Choices.{first_ones}
use Rattle.crash_states.proofs.choice.add_ones.Given as goal

abbrev pub invariant-loop-block : goal.invariant-loop-block
invariant-loop-block g l = l.choices.items ≡ l.fn.choices.items ++ first_ones l.block
