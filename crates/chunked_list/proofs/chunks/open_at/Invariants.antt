use Rattle.std.proofs.Common.{◌≡◌, ◌≤◌, ◌+◌, length}
use Rattle.std.specs.List.{concat}
use Rattle.chunked_list.specs.inside.Chunks.{HasHole}
use Rattle.chunked_list.proofs.chunks.open_at.Given as goal

abbrev pub invariant-loop-number : goal.invariant-loop-number
invariant-loop-number g l = record {
  hole : HasHole l.chunks.items (l.count + 1) l.number;
  same : concat l.chunks.items ≡ concat l.initial.chunks.items;
  from : l.first ≤ l.number;
  chunks : length l.chunks.items ≡ length l.initial.chunks.items;
}
