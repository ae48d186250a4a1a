-- How migrating a volume changes another device: it makes a volume of another layout there, with the same files.
use Rattle.std.specs.Prelude.{◌≡◌, ◌⊎◌, ℕ, ◌+◌, ◌*◌, ◌<◌, ◌≤◌, List, [], ◌∷◌, length, take, drop, slice_index}
use Rattle.std.specs.Prelude.{Result, Ok}
use Rattle.device.specs.Device.{Torn, TornFrom, LeavesOnly, Only}
use Rattle.device.specs.declared.device.Device.{Ghosts}
use Rattle.page_entry.specs.declared.refusal.Refusal.{Refusal}
use Rattle.volume_codec.specs.Files.{TableFile, AskedFile}
use Rattle.volume_codec.specs.Layout.{journals_of, lengths_blocks, gate_block, first_home, block_at}
use Rattle.volume_codec.specs.Super.{SuperValue, block_count, total_pages, first_home_of}
use Rattle.volume_codec.specs.Lengths.{HasLengths, lengths_text}
use Rattle.volume_codec.specs.Recovery.{IsVolume}
use Rattle.recovery.specs.Counts.{IsAccounted}
use Rattle.recovery.specs.Format.{HasShape}
use Rattle.recovery.specs.Opening.{IsUnwritten}
use Rattle.recovery.specs.Volume.{VolumeState, files_of}

-- requests for files with these names, lengths and capacities
abbrev pub asked_again : List TableFile → List ℕ → List AskedFile
asked_again (f ∷ fs) (n ∷ lengths) =
    record { name = f.name; length = n; capacity = f.capacity } ∷ asked_again fs lengths
asked_again fs lengths = []

-- requests for the files of a volume
abbrev pub asked_of : {D : Type 0} → VolumeState D → List AskedFile
asked_of volume = asked_again volume.table.files volume.lengths

-- In the home blocks of each file, the bytes past its length are 0.
abbrev pub AreZeroPast : SuperValue → List ℕ → List ℕ → Type 0
AreZeroPast table lengths bytes = (file i : ℕ) → file < length table.files
    → 4096 * first_home_of table file + slice_index lengths file ≤ i → i < 4096 * first_home_of table (file + 1)
    → slice_index bytes i ≡ 0

-- All blocks of a volume except block 0 are as migrating `volume` makes them. Each gate byte is 0. The lengths block,
-- if there is one, contains the lengths. If the device of `volume` is honest, the files are the same, with zeros past
-- their lengths.
pub record IsFilled {D : Type 0} (disk : Ghosts D) (volume : VolumeState D) (table : SuperValue) (bytes : List ℕ)
    : Type 0 where
  pub gates : (j : ℕ) → j < journals_of table.layout → slice_index bytes (4096 * gate_block table.slots j) ≡ 0
  pub lengths_block : 0 < lengths_blocks table.layout
      → block_at bytes (first_home table.layout table.slots) ≡ lengths_text volume.lengths
  pub files : disk.is_honest volume.device → files_of table bytes ≡ files_of volume.table (disk.seen volume.device)
  pub tails : disk.is_honest volume.device → AreZeroPast table volume.lengths bytes

-- A crash may leave `c` while `volume` is migrated to a device that a crash before might have left as one of `lists`.
-- `c` is one of `lists`, with other bytes only in the new volume's blocks. Block 0 is as before, or the rest of the new
-- volume is filled.
pub record IsPartlyMigrated {D : Type 0} (disk : Ghosts D) (volume : VolumeState D) (table : SuperValue)
    (lists : List ℕ → Type 0) (c : List ℕ) : Type 0 where
  pub before : List ℕ
  pub left : lists before
  pub within : Torn 0 (4096 * block_count table) before c
  pub first : (block_at c 0 ≡ block_at before 0) ⊎ IsFilled disk volume table c

-- A crash during a migration may leave `c`: bytes that it might have left before, or a partly migrated volume.
abbrev pub LeftByMigration : {D E : Type 0} → Ghosts D → Ghosts E → ℕ → ℕ → VolumeState D → E → List ℕ → Type 0
LeftByMigration disk other layout slots volume before c = other.may_leave before c
    ⊎ ((table : SuperValue) × HasShape layout (asked_of volume) slots (length (other.seen before)) table
    × IsPartlyMigrated disk volume table (other.may_leave before) c)

-- Both devices are as long and as honest as before. If the result is `Ok`, no call of either failed. Otherwise the
-- failed calls of one device match the refusal, and no call of the other failed.
abbrev pub AreAccounted : {D E X : Type 0} → Ghosts D → Ghosts E → D → E → Result X Refusal → D → E → Type 0
AreAccounted disk other old before result new after =
    (IsAccounted disk old result new × IsAccounted {X = Unit {0}} other before (Ok tt) after)
    ⊎ (IsAccounted {X = Unit {0}} disk old (Ok tt) new × IsAccounted other before result after)

-- Bytes of a volume were read, and written to another device, or a call of one of the two failed. Only the `n` bytes
-- from offset `at` on were written. All other bytes of that device are as before, also after a crash. The volume's
-- table and lengths are the same. If its device is honest, nothing was written to it.
pub record Copies {D E X : Type 0} (disk : Ghosts D) (other : Ghosts E) (at n : ℕ) (old : VolumeState D) (before : E)
    (result : Result X Refusal) (new : VolumeState D) (after : E) : Type 0 where
  pub table : new.table ≡ old.table
  pub lengths : new.lengths ≡ old.lengths
  pub unwritten : disk.is_honest old.device → IsUnwritten disk old.device new.device
  pub torn : other.is_honest before → Torn at n (other.seen before) (other.seen after)
  pub left : (c : List ℕ) → other.may_leave after c → TornFrom at n (other.may_leave before) c
  pub time : LeavesOnly other.moment other.left_since before after (TornFrom at n (other.may_leave before))
  pub accounts : AreAccounted disk other old.device before result new.device after

-- the first block of file `i`, if the files' blocks begin at block `first`; files lie one after another
abbrev pub home_at : ℕ → List TableFile → ℕ → ℕ
home_at first files i = first + total_pages (take i files)

-- The first `count` files were copied to their blocks, which begin at block `first`. Every other byte is as before.
pub record AreCopied (first : ℕ) (files : List TableFile) (lengths : List ℕ) (bytes : ℕ → List ℕ) (count : ℕ)
    (start now : List ℕ) : Type 0 where
  pub same_length : length now ≡ length start
  pub each : (file : ℕ) → file < count
      → take (slice_index lengths file) (drop (4096 * home_at first files file) now) ≡ bytes file
  pub others : (i : ℕ) → ((file : ℕ) → file < count → (i < 4096 * home_at first files file)
      ⊎ (4096 * home_at first files file + slice_index lengths file ≤ i))
      → slice_index now i ≡ slice_index start i

-- A volume was copied to an honest device. This device contains a volume with this layout and this number of slots, and
-- with the same names, lengths and capacities. Its gates are closed. Its files have the same bytes, and zeros past
-- their lengths. All of it is synced. The bytes past the volume are as before.
pub record HasMigrated {D E : Type 0} (disk : Ghosts D) (other : Ghosts E) (layout slots : ℕ)
    (volume : VolumeState D) (before after : E) : Type 0 where
  pub table : SuperValue
  pub shape : HasShape layout (asked_of volume) slots (length (other.seen before)) table
  pub holds : IsVolume table [] (other.seen after)
  pub lengths_fit : HasLengths table (block_at (other.seen after))
  pub files : files_of table (other.seen after) ≡ files_of volume.table (disk.seen volume.device)
  pub tails : AreZeroPast table volume.lengths (other.seen after)
  pub synced : Only (other.may_leave after) (other.seen after)
  pub past : (i : ℕ) → 4096 * block_count table ≤ i
      → slice_index (other.seen after) i ≡ slice_index (other.seen before) i
