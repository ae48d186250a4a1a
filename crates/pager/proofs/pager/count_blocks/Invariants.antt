use Rattle.std.proofs.Common.{◌≡◌, ◌-◌, ◌^◌, take, length, min}
use Rattle.std.specs.List.{sum_by}
use Rattle.kept_blocks.specs.Blocks.{Blocks}
use Rattle.pager.proofs.pager.count_blocks.Given as goal

abbrev pub invariant-loop-blocks : goal.invariant-loop-blocks
invariant-loop-blocks g l = record {
  count : l.count ≡ min (2 ^ 64 - 1) (sum_by (λ (blocks : Blocks). length blocks) (take l.blocks-index l.records));
}
