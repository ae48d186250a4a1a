use Rattle.std.proofs.Common.{◌≡◌, ◌≤◌, ◌<◌, ◌-◌, ◌/◌, ◌^◌, ℕ}
use Rattle.page_table.specs.inside.Nodes.{read_by_walk}
use Rattle.page_table.proofs.nodes.first_grown.Given as goal

-- no page so far has a leaf
abbrev pub invariant-loop-page : goal.invariant-loop-page
invariant-loop-page l = record {
  low : l.start ≤ l.page;
  before : (q : ℕ) → l.start ≤ q → q < l.page → read_by_walk l.words 3 (q / 512) ≡ 0;
}

abbrev pub decreases-loop-page : goal.decreases-loop-page
decreases-loop-page l = 2 ^ 36 - l.page
