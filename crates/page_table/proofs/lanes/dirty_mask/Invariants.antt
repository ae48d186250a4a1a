use Rattle.std.proofs.Common.{◌≡◌, ◌<◌, ◌*◌, ℕ, get_or, length}
use lib.Lanes.{mask_l, chunk}
use Rattle.page_table.proofs.Masks.{dirties}
use Rattle.page_table.proofs.lanes.dirty_mask.Given as goal

-- the words so far are made
abbrev pub invariant-loop-place : goal.invariant-loop-place
invariant-loop-place l = record {
  long : length l.mask ≡ 8;
  made : (k : ℕ) → k < l.place → get_or l.mask k 0 ≡ mask_l (dirties (chunk (k * 64) 64 l.entries));
}
