-- Facts that hold of every machine's state: those of its layers, and those that connect the layers.
use Rattle.std.specs.Prelude.{ℕ, ◌≡◌, ◌≢◌, ◌+◌, ◌^◌, ◌<◌, ◌≤◌, ◌⊎◌, true, false, List}
use Rattle.std.specs.Prelude.{[], ◌∷◌, length, map, Some, None, IsSome, slice_index_or}
use Rattle.std.specs.List.{All}
use Rattle.page_entry.specs.declared.numbers.FilePage.{FilePage}
use Rattle.mappings.specs.declared.place.Place.{Place}
use Rattle.mappings.specs.Judgement.{is_user_range, protect_refusal}
use Rattle.frames.specs.Frames.{FramesState, Frame, frame_at, bytes_of}
use Rattle.volume_codec.specs.Layout.{max_frames, journals_of, lengths_blocks, first_home}
use Rattle.volume_codec.specs.Super.{SuperValue, Fits, geometry_of}
use Rattle.volume_codec.specs.Descriptor.{AreHomes}
use Rattle.journal.specs.Pages.{home_of}
use Rattle.journal.specs.WriteOut.{WriteOut, has_committed}
use Rattle.journal.specs.WriteOuts.{is_busy}
use Rattle.spaces.specs.declared.change.Change.{Change}
use Rattle.spaces.specs.declared.change.Change.TheVariants.{Unmap, Protect, Reclaim, SetLength, Checkpoint}
use Rattle.spaces.specs.Spaces.{Spaces, AreSpaces, has_space, space_at, place_at}
use Rattle.spaces.specs.Requests.{is_user_space}
use Rattle.shootdown.specs.declared.lock.Lock.{Lock}
use Rattle.shootdown.specs.Shootdown.{ShootdownState, IsShootdown, current}
use Rattle.shootdown.specs.Coherence.{Coheres}
use Rattle.checkpoint.specs.Checkpoint.{Holds, is_noted, is_frozen, AreRising}
use Rattle.checkpoint.specs.Backing.{AreBacked}
use Rattle.fault.specs.Fault.{is_in_memory}
use Rattle.machine.specs.State.{State, capacity_of, length_of}
use Rattle.machine.specs.Refusals.{pages_in_file, lacks_last_page, lacks_frames}
use Rattle.machine.specs.Durability.{IsInFile, frozen_homes}

-- Frames and copies in use contain whole pages. Each page of a file is in at most one frame and at most one copy.
pub record IsMemory (memory : FramesState) : Type 0 where
  pub frames_whole : (frame : ℕ) → IsSome (frame_at memory frame) → length (bytes_of (frame_at memory frame)) ≡ 4096
  pub copies_whole : (copy : ℕ) (kept : Frame) → slice_index_or memory.copies copy None ≡ Some kept
      → length kept.bytes ≡ 4096
  pub one_frame : (a b : ℕ) (owner : FilePage) → Holds memory a owner → Holds memory b owner → a ≡ b
  pub one_copy : (a b : ℕ) (x y : Frame) → slice_index_or memory.copies a None ≡ Some x
      → slice_index_or memory.copies b None ≡ Some y → x.page ≡ y.page → a ≡ b

-- Each of these batches except the newest is committed.
abbrev pub AreOlderCommitted : List WriteOut → Type 0
AreOlderCommitted [] = Unit {0}
AreOlderCommitted (w ∷ []) = Unit {0}
AreOlderCommitted (w ∷ next ∷ newer) = (has_committed w ≡ true) × AreOlderCommitted (next ∷ newer)

-- The length of a file may become `to`. The layout has a block for lengths, the file exists and has space for the
-- length, and each batch is done. The memory that a growth needs is present or free.
pub record IsResizable (s : State) (file to : ℕ) : Type 0 where
  pub block : 0 < lengths_blocks s.table.layout
  pub there : file < length s.table.files
  pub within : to ≤ capacity_of s file
  pub differs : to ≢ length_of s file
  pub whole : s.write_outs.broken ≡ false
  pub done : s.write_outs.batches ≡ []
  pub resident : lacks_last_page s file to ≡ false
  pub room : lacks_frames s file to ≡ false

-- What a change in progress may rely on.
abbrev pub IsPrepared : State → Change → Type 0
IsPrepared s (Unmap pcid range) = (is_user_space s.hardware.spaces pcid ≡ true) × (is_user_range range ≡ true)
IsPrepared s (Protect pcid range rights) =
    (is_user_space s.hardware.spaces pcid ≡ true) × (is_user_range range ≡ true)
    × (protect_refusal (space_at s.hardware.spaces pcid).places range rights ≡ None)
IsPrepared s (Reclaim owner) =
    (owner.file < length s.table.files) × (owner.page < pages_in_file s.table.files owner.file)
    × (is_in_memory s.hardware.memory owner ≡ true)
IsPrepared s (SetLength file to) = IsResizable s file to
IsPrepared s Checkpoint = (s.marks + 1 < 2 ^ 32) × (s.write_outs.broken ≡ false → is_busy s.write_outs ≡ false)

-- ---- facts that depend on the processors and the page tables

-- The page tables and the processors agree with each other, and with the table of a volume.
pub record AreTablesSound (table : SuperValue) (m : Spaces) (x : ShootdownState) : Type 0 where
  pub spaces : AreSpaces m
  pub shootdown : IsShootdown x
  pub coheres : Coheres m x
  -- Each processor is in an existing space.
  pub current : (p : ℕ) → p < length x.processors → has_space m (current x p) ≡ true
  -- Only files of the table are mapped.
  pub in_table : (pcid page : ℕ) (place : Place) → place_at m pcid page ≡ Some place → place.file < length table.files

pub record AreSpacesSound (s : State) : Type 0 where
  pub tables : AreTablesSound s.table s.hardware.spaces s.hardware.shootdown
  pub open tables use *
  -- A change in progress was judged before it began.
  pub prepared : (lock : Lock) → s.hardware.shootdown.lock ≡ Some lock → IsPrepared s lock.change

-- ---- facts that depend on the frames
pub record IsMemorySound (s : State) : Type 0 where
  pub memory : IsMemory s.hardware.memory
  pub few_frames : length s.hardware.memory.frames ≤ max_frames s.table.layout s.table.slots
  -- Each page in memory begins before its file's end.
  pub in_files : (frame : ℕ) (owner : FilePage) → Holds s.hardware.memory frame owner → IsInFile s owner
  -- Entries of the page tables map frames that hold their pages, and permit no store to a held page.
  pub backed : AreBacked s.hardware.memory s.checkpoint s.hardware.spaces
  -- Only frames in use are noted.
  pub notes : length s.checkpoint.notes ≡ length s.hardware.memory.frames
  pub noted : (frame : ℕ) → is_noted s.checkpoint frame ≡ true → IsSome (frame_at s.hardware.memory frame)
  -- Frozen pages are in memory, and only they are copied.
  pub frozen : All (λ owner. is_in_memory s.hardware.memory owner ≡ true) s.checkpoint.frozen
  pub rising : AreRising s.checkpoint.frozen
  pub copied : (copy : ℕ) (kept : Frame) → slice_index_or s.hardware.memory.copies copy None ≡ Some kept
      → is_frozen s.checkpoint kept.page ≡ true

-- The home block of the lengths, or of a page in memory.
abbrev pub IsSource : SuperValue → FramesState → ℕ → Type 0
IsSource table memory home =
    ((0 < lengths_blocks table.layout) × (home ≡ first_home table.layout table.slots))
    ⊎ ((owner : FilePage) × (home ≡ home_of table owner) × (is_in_memory memory owner ≡ true))

-- ---- facts that depend on the write-outs
pub record AreWriteOutsSound (s : State) : Type 0 where
  pub geometry : s.write_outs.geometry ≡ geometry_of s.table
  -- Each journal has at most one batch.
  pub few_batches : length s.write_outs.batches ≤ journals_of s.table.layout
  pub older : AreOlderCommitted s.write_outs.batches
  pub homes : All (λ w. AreHomes (geometry_of s.table) w.batch.homes) s.write_outs.batches
  -- The batches' home blocks are those of the lengths or of pages in memory.
  pub sources : All (λ w. All (IsSource s.table s.hardware.memory) w.batch.homes) s.write_outs.batches
  pub marked : All (λ w. (0 < w.batch.mark) × (w.batch.mark ≤ s.marks)) s.write_outs.batches
  pub few_marks : s.marks < 2 ^ 32
  -- Lengths are set only if each batch is done and the machine is not broken, in a layout with a block for lengths.
  pub quiescent : s.resized ≡ true
      → (s.write_outs.batches ≡ []) × (s.write_outs.broken ≡ false) × (0 < lengths_blocks s.table.layout)
  pub frozen : map (home_of s.table) s.checkpoint.frozen ≡ frozen_homes s

pub record IsSound (s : State) : Type 0 where
  pub fits : Fits s.table
  -- Each file has a length, which is at most its capacity.
  pub lengths : length s.lengths ≡ length s.table.files
  pub within : (file : ℕ) → length_of s file ≤ capacity_of s file
  pub spaces : AreSpacesSound s
  pub memory : IsMemorySound s
  pub write_outs : AreWriteOutsSound s
