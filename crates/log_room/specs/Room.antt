-- What the calls of a pager preserve: the first block of its device, and the end of its log.
use Rattle.std.specs.Prelude.{◌≡◌, ℕ, List, [], ◌∷◌}
use Rattle.device.specs.declared.device.Device.{Ghosts}
use Rattle.device.specs.Device.{LeavesOnly}
use Rattle.volume_codec.specs.Layout.{block_at}
use Rattle.kept_blocks.specs.Blocks.{Blocks}
use Rattle.log_commits.specs.Tail.{EndsAtTail}
use Rattle.log_pager.specs.Pager.{LogPagerValue}

-- The first block keeps this text: a crash from the state `old` of the device to the state `new` leaves it, and so does
-- a crash from `new` on.
pub record KeepsFirst {D : Type 0} (disk : Ghosts D) (text : List ℕ) (old new : D) : Type 0 where
  pub crash : LeavesOnly disk.moment disk.left_since old new (λ c. block_at c 0 ≡ text)
  pub left : (c : List ℕ) → disk.may_leave new c → block_at c 0 ≡ text

-- The number of commits that these blocks take: one, or none if there are no blocks.
abbrev pub commits_of : Blocks → ℕ
commits_of [] = 0
commits_of (block ∷ blocks) = 1

-- In each list that a crash may leave of the pager's device, the log ends at the pager's tail.
abbrev pub IsEnded : {D : Type 0} → Ghosts D → LogPagerValue D → Type 0
IsEnded disk s = (c : List ℕ) → disk.may_leave s.device c → EndsAtTail s.store.tail c
