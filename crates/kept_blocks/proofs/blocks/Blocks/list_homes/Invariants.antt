use Rattle.std.proofs.Common.{◌≡◌, ◌≤◌, ◌++◌}
use Rattle.std.specs.Vec.{vec_capacity}
use Rattle.kept_blocks.proofs.blocks.Blocks.list_homes.Given as goal

abbrev pub invariant-loop-home : goal.invariant-loop-home
invariant-loop-home g l = record {
  items : l.list.items ++ l.home-iterator ≡ l.initial.home-iterator;
  room : vec_capacity l.initial.list ≤ vec_capacity l.list;
}
