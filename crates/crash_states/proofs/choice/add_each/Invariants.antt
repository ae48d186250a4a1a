use Rattle.std.proofs.Common.{◌≡◌, ◌++◌}
use Rattle.crash_states.specs.Choices.{first_mixtures}
use Rattle.crash_states.proofs.choice.add_each.Given as goal

abbrev pub invariant-loop-more : goal.invariant-loop-more
invariant-loop-more g l = l.choices.items ≡ l.fn.choices.items ++ first_mixtures l.more
