-- The device calls that make a volume on a device whose bytes are all 0.
use Rattle.std.specs.Prelude.{◌≡◌, ◌⊎◌, ℕ, zero, suc, ◌*◌, ◌<◌, ◌≤◌, Bool, true, false}
use Rattle.std.specs.Prelude.{List, [], ◌∷◌, length, slice_index, Result, Ok, Err}
use Rattle.device.specs.Did.{Did}
use Rattle.device.specs.Work.{Work, WriteAt, Sync, Nothing}
use Rattle.device.specs.declared.device.Device.{Ghosts}
use Rattle.page_entry.specs.declared.refusal.Refusal.{Refusal}
use Rattle.page_entry.specs.declared.refusal.Refusal.TheVariants.{Device}
use Rattle.volume_codec.specs.Files.{AskedFile, lengths_asked}
use Rattle.volume_codec.specs.Layout.{lengths_blocks, first_home, first_file_home}
use Rattle.volume_codec.specs.Lengths.{lengths_text}
use Rattle.volume_codec.specs.Super.{SuperValue, super_text}
use Rattle.recovery.specs.Format.{HasShape, RefusesFormat}

-- Each byte is 0.
abbrev pub IsZero : List ℕ → Type 0
IsZero bytes = (i : ℕ) → slice_index bytes i ≡ 0

-- Byte `i` is in the super block or in the lengths block.
abbrev pub IsWritten : SuperValue → ℕ → Type 0
IsWritten table i = (i < 4096)
    ⊎ ((4096 * first_home table.layout table.slots ≤ i) × (i < 4096 * first_file_home table.layout table.slots))

-- no call if the number of blocks is 0; otherwise a write of this block
abbrev pub write_if : ℕ → ℕ → List ℕ → Work
write_if zero at block = Nothing
write_if (suc n) at block = WriteAt at block

-- the calls that sync earlier writes, and then write and sync block 0
abbrev pub super_works : List ℕ → List Work
super_works block = Sync ∷ WriteAt 0 block ∷ Sync ∷ []

-- the calls that make a volume: write the lengths, if the layout has a block for them; sync; write the table; sync
abbrev pub new_works : SuperValue → List ℕ → List Work
new_works table lengths =
    write_if (lengths_blocks table.layout) (4096 * first_home table.layout table.slots) (lengths_text lengths)
    ∷ super_works (super_text table)

-- If `done`, all these calls were made in order, and succeeded. Otherwise one of them failed, and no later one was
-- made.
abbrev pub DidAll : {D : Type 0} → Ghosts D → D → List Work → Bool → D → Type 0
DidAll disk old [] done new = (done ≡ true) × (new ≡ old)
DidAll {D} disk old (work ∷ works) done new = ((done ≡ false) × Did disk old work false new)
    ⊎ ((mid : D) × Did disk old work true mid × DidAll disk mid works done new)

-- The calls that were made, for each result. `Ok`: all calls of a new volume. `Device`: one call failed, and no later
-- one was made. Any other refusal, which is one of formatting: no call was made.
abbrev pub HasAsked : {D X : Type 0} → Ghosts D → ℕ → List AskedFile → ℕ → D → Result X Refusal → D → Type 0
HasAsked disk layout files slots old (Ok done) new =
    (table : SuperValue) × HasShape layout files slots (length (disk.seen old)) table
    × DidAll disk old (new_works table (lengths_asked files)) true new
HasAsked disk layout files slots old (Err Device) new =
    (table : SuperValue) × HasShape layout files slots (length (disk.seen old)) table
    × DidAll disk old (new_works table (lengths_asked files)) false new
HasAsked disk layout files slots old (Err refusal) new =
    RefusesFormat layout files slots (length (disk.seen old)) refusal × (new ≡ old)
