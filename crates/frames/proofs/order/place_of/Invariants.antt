use Rattle.std.proofs.Common.{◌≡◌, ◌<◌, ◌≤◌, ◌-◌, ℕ, true, false, None, length, get_or}
use Rattle.frames.specs.Frames.{page_of}
use Rattle.frames.specs.inside.Pages.{comes_before}
use Rattle.frames.proofs.order.place_of.Given as goal

-- the frames before `from` come before the page, and those from `to` on don't
abbrev pub invariant-loop-from : goal.invariant-loop-from
invariant-loop-from g l = record {
  rising : l.from ≤ l.to;
  within : l.to ≤ length l.order.items;
  before : (k d : ℕ) → k < l.from
      → comes_before (page_of (get_or l.frames (get_or l.order.items k d) None)) l.page ≡ true;
  after : (k d : ℕ) → l.to ≤ k → k < length l.order.items
      → comes_before (page_of (get_or l.frames (get_or l.order.items k d) None)) l.page ≡ false;
}

abbrev pub decreases-loop-from : goal.decreases-loop-from
decreases-loop-from g l = l.to - l.from
