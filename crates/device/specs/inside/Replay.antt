-- The state that a disk in memory keeps besides its log.
use Rattle.std.specs.Prelude.{⊤, ◌≡◌, ℕ, ◌+◌, ◌≤◌, List, [], ◌∷◌, length, slice_range}
use Rattle.device.specs.Device.{written}
use Rattle.device.specs.Memory.{DiskChange, content_after}
use Rattle.device.specs.Memory.DiskChange.{write, sync}

-- the number of changes since the last sync
abbrev pub since_sync : List DiskChange → ℕ
since_sync [] = 0
since_sync (write at bytes ∷ older) = since_sync older + 1
since_sync (sync ∷ older) = 0

-- the content, with the bytes of `choice` in the ranges that these changes wrote
abbrev pub with_choice : List DiskChange → List ℕ → List ℕ → List ℕ
with_choice [] choice content = content
with_choice (write at bytes ∷ older) choice content =
    written (with_choice older choice content) at (slice_range choice at (at + length bytes))
with_choice (sync ∷ older) choice content = with_choice older choice content

-- Each of these writes is within a disk of n bytes.
abbrev pub AreWithin : ℕ → List DiskChange → Type 0
AreWithin n [] = ⊤
AreWithin n (write at bytes ∷ older) = (at + length bytes ≤ n) × AreWithin n older
AreWithin n (sync ∷ older) = AreWithin n older

-- the disk's content now, and the number of changes up to and including the last sync
pub record IsReplay (first : List ℕ) (changes : List DiskChange) (content : List ℕ) (synced : ℕ) : Type 0 where
  pub replayed : content ≡ content_after first changes
  pub first_length : length first ≡ length content
  pub since : synced + since_sync changes ≡ length changes
  pub within : AreWithin (length content) changes
