use Rattle.std.proofs.Common.{◌≡◌, length}
use Rattle.crash_states.specs.Choices.{left_of_blocks}
use Rattle.crash_states.specs.Held.{content_of}
use Rattle.crash_states.proofs.choice.Contents.mixed.Given as goal

abbrev pub invariant-loop-i : goal.invariant-loop-i
invariant-loop-i g l = record {
  left : l.bytes.items ≡ left_of_blocks l.choice (content_of l.self) l.i;
  same_length : length l.bytes.items ≡ length l.self.seen.items;
}
