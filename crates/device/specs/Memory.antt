-- A disk in memory, as the record of its first content and of the writes and syncs since then.
use Rattle.std.specs.Prelude.{◌≡◌, ◌^◌, ℕ, ◌+◌, ◌-◌, ◌≤◌, min, Bool, false, ◌&&◌, ◌||◌, List}
use Rattle.std.specs.Prelude.{[], ◌∷◌, length, drop, nat_le, nat_lt, if◌then◌else◌, slice_index}
use Rattle.device.specs.Count.{raised}
use Rattle.device.specs.Device.{written}

-- a write at an offset, or a sync
pub data DiskChange : Type 0 where
  write : ℕ → List ℕ → DiskChange
  sync : DiskChange

-- The record starts at the moment `start`, with the content `first`, which is all synced. The newest change comes
-- first.
pub record Recorded : Type 0 where
  pub first : List ℕ
  pub changes : List DiskChange
  pub start : ℕ
  pub calls : ℕ
  pub faults : ℕ

-- a disk with these bytes, of which no call has been made
abbrev pub new_disk : List ℕ → Recorded
new_disk bytes = record { first = bytes; changes = []; start = 0; calls = 0; faults = 0 }

-- the bytes that a read returns after these changes
abbrev pub content_after : List ℕ → List DiskChange → List ℕ
content_after first [] = first
content_after first (write at bytes ∷ older) = written (content_after first older) at bytes
content_after first (sync ∷ older) = content_after first older

-- whether the place was written since the last sync
abbrev pub is_unsynced : List DiskChange → ℕ → Bool
is_unsynced [] i = false
is_unsynced (write at bytes ∷ older) i = (nat_le at i && nat_lt i (at + length bytes)) || is_unsynced older i
is_unsynced (sync ∷ older) i = false

-- A crash may leave any byte in a place that was written since the last sync, and the byte that a read returns
-- elsewhere.
pub record MayBeLeft (first : List ℕ) (changes : List DiskChange) (c : List ℕ) : Type 0 where
  pub same_length : length c ≡ length (content_after first changes)
  pub synced : (i : ℕ) → is_unsynced changes i ≡ false → slice_index c i ≡ slice_index (content_after first changes) i

abbrev pub seen_of : Recorded → List ℕ
seen_of disk = content_after disk.first disk.changes

abbrev pub may_leave_of : Recorded → List ℕ → Type 0
may_leave_of disk = MayBeLeft disk.first disk.changes

-- the present moment: each change takes one moment
abbrev pub moment_of : Recorded → ℕ
moment_of disk = disk.start + length disk.changes

-- A crash since moment t may have left c: it came before some of the newest changes, all of which were made after t.
abbrev pub left_since_of : Recorded → ℕ → List ℕ → Type 0
left_since_of disk t c = (newer : ℕ) × (newer ≤ length disk.changes) × (t + newer ≤ moment_of disk)
    × MayBeLeft disk.first (drop newer disk.changes) c

-- the disk after a call that changes no bytes
abbrev pub after_read : Recorded → Recorded
after_read disk = record disk { calls = raised disk.calls }

-- the disk after a call that failed for lack of memory
abbrev pub after_refusal : Recorded → Recorded
after_refusal disk = record disk { calls = raised disk.calls; faults = raised disk.faults }

abbrev pub after_change : Recorded → DiskChange → Recorded
after_change disk change = record disk { changes = change ∷ disk.changes; calls = raised disk.calls }

-- for each place from i on: the chosen byte if the place is marked, and otherwise the byte of the disk
abbrev pub chosen_from : (ℕ → Bool) → ℕ → List ℕ → List ℕ → List ℕ
chosen_from marked i (c ∷ choice) (b ∷ bytes) = (if marked i then c else b) ∷ chosen_from marked (i + 1) choice bytes
chosen_from marked i [] bytes = []
chosen_from marked i (c ∷ choice) [] = []

-- The disk after a crash: its content is what the crash leaves, and its record starts again.
abbrev pub after_stop : Recorded → List ℕ → Recorded
after_stop disk choice = record disk {
  first = chosen_from (is_unsynced disk.changes) 0 choice (seen_of disk);
  changes = [];
  start = min (moment_of disk) (2 ^ 64 - 1);
}
