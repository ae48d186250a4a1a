use Rattle.std.proofs.Common.{◌≡◌, ◌≤◌, ◌++◌, map, take}
use Rattle.std.specs.Vec.{vec_capacity}
use Rattle.journal.specs.Pages.{home_of}
use Rattle.journal.proofs.write_outs.add_homes.Given as goal

abbrev pub invariant-loop-page : goal.invariant-loop-page
invariant-loop-page g l = record {
  items : l.list.items ≡ l.initial.list.items ++ map (home_of l.table) (take l.page-index l.pages);
  room : vec_capacity l.initial.list ≤ vec_capacity l.list;
}
