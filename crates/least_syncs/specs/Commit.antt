-- A commit, as the writes and syncs that a disk in memory recorded, and what recovery must find after a crash.
use Rattle.std.specs.Prelude.{⊤, ◌≡◌, ◌≢◌, ◌⊎◌, ℕ, ◌+◌, ◌<◌, ◌≤◌, Bool, false, List, []}
use Rattle.std.specs.Prelude.{◌∷◌, ◌++◌, length, slice_index, nat_eq, if◌then◌else◌}
use Rattle.device.specs.Memory.{DiskChange, Recorded, content_after, is_unsynced}
use Rattle.device.specs.Memory.{seen_of, may_leave_of, moment_of, left_since_of}
use Rattle.device.specs.Memory.DiskChange.{write, sync}

-- Each write is within a disk of `n` bytes.
abbrev pub AreWithin : ℕ → List DiskChange → Type 0
AreWithin n [] = ⊤
AreWithin n (write at bytes ∷ older) = (at + length bytes ≤ n) × AreWithin n older
AreWithin n (sync ∷ older) = AreWithin n older

-- These calls were made on a disk, the last one first. The disk may have recorded other calls before.
pub record HasMade (begun : Recorded) (calls : List DiskChange) (ended : Recorded) : Type 0 where
  pub first : ended.first ≡ begun.first
  pub start : ended.start ≡ begun.start
  pub changes : ended.changes ≡ calls ++ begun.changes
  pub within : AreWithin (length ended.first) ended.changes

-- These calls are a commit that replaces old contents with new ones. It is acknowledged once they are made. Recovery is
-- any relation between bytes and contents; it may be a function.
pub record IsCommit {Contents : Type 0} (recovers : List ℕ → Contents → Type 0) (old new : Contents)
    (begun : Recorded) (calls : List DiskChange) (ended : Recorded) : Type 0 where
  pub made : HasMade begun calls ended
  -- After a crash at any moment since the commit began, recovery finds only the old or the new contents.
  pub atomic : (c : List ℕ) (found : Contents) → left_since_of ended (moment_of begun) c → recovers c found
      → (found ≡ old) ⊎ (found ≡ new)
  -- After a crash once the commit is acknowledged, the bytes recover to the new contents.
  pub durable : (c : List ℕ) → may_leave_of ended c → recovers c new

-- The number of syncs in these calls.
abbrev pub syncs_of : List DiskChange → ℕ
syncs_of [] = 0
syncs_of (write at bytes ∷ older) = syncs_of older
syncs_of (sync ∷ older) = syncs_of older + 1

-- The calls before the first sync, or all calls if there is no sync.
abbrev pub before_sync : List DiskChange → List DiskChange
before_sync [] = []
before_sync (change ∷ older) = if nat_eq (syncs_of (change ∷ older)) 0 then change ∷ older else before_sync older

-- Whether byte `i` is unsynced just before the first sync of these calls.
abbrev pub is_open : Recorded → List DiskChange → ℕ → Bool
is_open begun calls i = is_unsynced (before_sync calls ++ begun.changes) i

-- The bytes that a read finds at that moment.
abbrev pub content_at_sync : Recorded → List DiskChange → List ℕ
content_at_sync begun calls = content_after begun.first (before_sync calls ++ begun.changes)

-- Each byte that `others` have changed by their first sync is unsynced just before the first sync of `these`.
abbrev pub WritesOver : Recorded → List DiskChange → List DiskChange → Type 0
WritesOver begun these others =
    (i : ℕ) → is_open begun these i ≡ false
    → slice_index (content_at_sync begun others) i ≡ slice_index (seen_of begun) i

-- Just before the first sync of either, the same bytes are unsynced. This is so if both write the same places.
abbrev pub WriteTheSamePlaces : Recorded → List DiskChange → List DiskChange → Type 0
WriteTheSamePlaces begun these others = (i : ℕ) → is_open begun these i ≡ is_open begun others i

-- `n` commits on the same disk, each with at most one sync. Their contents differ from the old ones and from each
-- other.
pub record AreByOneSync {Contents : Type 0} (recovers : List ℕ → Contents → Type 0) (old : Contents)
    (begun : Recorded) (n : ℕ) (new : ℕ → Contents) (calls : ℕ → List DiskChange) (ended : ℕ → Recorded)
    : Type 0 where
  pub each : (i : ℕ) → i < n → IsCommit recovers old (new i) begun (calls i) (ended i)
  pub few : (i : ℕ) → i < n → syncs_of (calls i) ≤ 1
  pub apart : (i : ℕ) → i < n → (new i ≢ old) × ((j : ℕ) → j < i → new i ≢ new j)

-- A disk, the calls that were made on it, and the calls that were made on another disk like it.
pub record Parting : Type 0 where
  pub begun : Recorded
  pub these : List DiskChange
  pub others : List DiskChange
