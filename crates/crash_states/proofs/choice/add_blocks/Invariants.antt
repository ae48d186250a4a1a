use Rattle.std.proofs.Common.{◌≡◌, ◌/◌}
use Rattle.crash_states.specs.Choices.{with_blocks}
use Rattle.crash_states.proofs.choice.add_blocks.Given as goal

abbrev pub invariant-loop-more : goal.invariant-loop-more
invariant-loop-more g l = l.blocks.items ≡ with_blocks l.fn.blocks.items (l.at / 4096) l.more
