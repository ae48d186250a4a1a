use Rattle.std.proofs.Common.{◌≡◌, ◌≤◌, ◌<◌, ◌-◌, ℕ, false}
use Rattle.page_entry.specs.Entry.{has_bit}
use Rattle.page_table.specs.inside.Nodes.{read_by_walk}
use Rattle.page_table.proofs.dirty_pages.first_dirty.Given as goal

-- no page so far is dirty
abbrev pub invariant-leaves : goal.invariant-leaves
invariant-leaves l = record {
  low : l.start ≤ l.next;
  before : (q : ℕ) → l.start ≤ q → q < l.next → q < l.end → has_bit (read_by_walk l.words 4 q) 6 ≡ false;
}

abbrev pub decreases-leaves : goal.decreases-leaves
decreases-leaves l = l.end - l.next
