use Rattle.std.proofs.Common.{◌≡◌, ◌-◌, ◌≤◌}
use Rattle.kept_blocks.specs.Blocks.{with_zeros}
use Rattle.kept_blocks.proofs.blocks.Blocks.put_zeros.Given as goal

abbrev pub invariant-loop-home : goal.invariant-loop-home
invariant-loop-home g l = record {
  low : l.low ≤ l.home;
  high : l.home ≤ l.high;
  blocks : l.self ≡ with_zeros l.initial.self l.low (l.home - l.low);
}
