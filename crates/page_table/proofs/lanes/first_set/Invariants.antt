use Rattle.std.proofs.Common.{◌≡◌, ◌≤◌, ◌<◌, ◌-◌, ℕ, false}
use Rattle.page_table.specs.Bits.{is_set}
use Rattle.page_table.proofs.lanes.first_set.Given as goal

-- no bit so far is set
abbrev pub invariant-loop-place : goal.invariant-loop-place
invariant-loop-place l =
    record { low : l.from ≤ l.place; before : (i : ℕ) → l.from ≤ i → i < l.place → i < l.end → is_set l.mask i ≡ false }

abbrev pub decreases-loop-place : goal.decreases-loop-place
decreases-loop-place l = l.end - l.place
