use Rattle.std.proofs.Common.{◌≡◌, ◌+◌, ◌-◌, ◌*◌, ◌++◌, drop}
use Rattle.volume_codec.specs.Text.{numbers_in}
use Rattle.volume_codec.proofs.lengths_block.numbers_at.Given as goal

abbrev pub invariant-loop-i : goal.invariant-loop-i
invariant-loop-i g l =
    l.numbers.items ++ numbers_in 8 (l.count - l.i) (drop (0 + 8 * l.i) l.block) ≡ numbers_in 8 l.count (drop 0 l.block)
