use Rattle.std.proofs.Common.{◌≡◌, ◌≤◌, ◌<◌, ◌-◌, ℕ}
use Rattle.page_table.specs.inside.Nodes.{read_by_walk}
use Rattle.page_table.proofs.leaves.next_present.Given as goal

-- no page so far has a present entry
abbrev pub invariant-leaves : goal.invariant-leaves
invariant-leaves l = record {
  low : l.start ≤ l.page;
  before : (q : ℕ) → l.start ≤ q → q < l.page → q < l.end → read_by_walk l.words 4 q ≡ 0;
}

abbrev pub decreases-leaves : goal.decreases-leaves
decreases-leaves l = l.end - l.page
