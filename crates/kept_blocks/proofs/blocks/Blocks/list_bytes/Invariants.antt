use Rattle.std.proofs.Common.{◌≡◌, ◌++◌}
use Rattle.kept_blocks.specs.Blocks.{all_bytes}
use Rattle.kept_blocks.proofs.Putting.{seen_as}
use Rattle.kept_blocks.proofs.blocks.Blocks.list_bytes.Given as goal

abbrev pub invariant-loop-home : goal.invariant-loop-home
invariant-loop-home g l = record {
  bytes : l.list.items ++ all_bytes (seen_as (λ b. b.value) l._home-iterator)
      ≡ l.initial.list.items ++ all_bytes (seen_as (λ b. b.value) l.initial._home-iterator);
}
