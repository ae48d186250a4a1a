-- The steps of a change of a file's length, in order.
use Rattle.std.specs.Prelude.{ℕ, ◌≡◌, ◌⊎◌, ◌↔◌, ◌*◌, ◌<◌, ◌≤◌, Bool, true}
use Rattle.std.specs.Prelude.{false, List, length, Some, None, if◌then◌else◌}
use Rattle.std.specs.Option.{option_map}
use Rattle.page_entry.specs.declared.numbers.FilePage.{FilePage}
use Rattle.frames.specs.Frames.{FramesState, Frame, frame_at, zero_page}
use Rattle.checkpoint.specs.Checkpoint.{Holds, same_page}
use Rattle.checkpoint.specs.Resizing.{is_past, cut_page, cut_frame}
use Rattle.checkpoint.specs.inside.Notes.{noted_in}

-- Each page of the file that is in memory begins before byte `end`.
abbrev pub BeginBefore : FramesState → ℕ → ℕ → Type 0
BeginBefore memory file end = (frame : ℕ) (owner : FilePage) → Holds memory frame owner → owner.file ≡ file
    → 4096 * owner.page < end

-- The frame and its note haven't changed.
pub record IsKeptFrame (memory : FramesState) (notes : List Bool)
    (memory' : FramesState) (notes' : List Bool) (frame : ℕ) : Type 0 where
  pub same : frame_at memory' frame ≡ frame_at memory frame
  pub same_note : noted_in notes' frame ≡ noted_in notes frame

-- The frame's page was past the end of the file. Now the frame is free, and isn't noted.
pub record IsDropped (file end : ℕ) (memory memory' : FramesState) (notes' : List Bool) (frame : ℕ) : Type 0 where
  pub was : Frame
  pub had : frame_at memory frame ≡ Some was
  pub past : is_past file end was.page ≡ true
  pub free : frame_at memory' frame ≡ None
  pub unnoted : noted_in notes' frame ≡ false

-- Some frames whose pages begin at or past the end of the file are freed, and not noted. Other frames don't change.
pub record DropsPast (file end : ℕ) (memory : FramesState) (notes : List Bool) (memory' : FramesState)
    (notes' : List Bool) : Type 0 where
  pub frames : (frame : ℕ) → IsKeptFrame memory notes memory' notes' frame
      ⊎ IsDropped file end memory memory' notes' frame
  pub same_count : length memory'.frames ≡ length memory.frames
  pub same_copies : memory'.copies ≡ memory.copies
  pub same_notes : length notes' ≡ length notes

-- a frame, with zeros from byte `at` on if it contains this page
abbrev pub cut_if_page : FilePage → ℕ → Frame → Frame
cut_if_page owner at f = if same_page owner f.page then record f { bytes = cut_page at f.bytes } else f

pub record CutsPage (owner : FilePage) (at : ℕ) (memory memory' : FramesState) : Type 0 where
  pub frames : (frame : ℕ) → frame_at memory' frame ≡ option_map (cut_if_page owner at) (frame_at memory frame)
  pub same_count : length memory'.frames ≡ length memory.frames
  pub same_copies : memory'.copies ≡ memory.copies

-- Each frame of the file has zeros from byte `end` of the file on.
pub record CutsFile (file end : ℕ) (memory memory' : FramesState) : Type 0 where
  pub frames : (frame : ℕ) → frame_at memory' frame ≡ option_map (cut_frame file end) (frame_at memory frame)
  pub same_count : length memory'.frames ≡ length memory.frames
  pub same_copies : memory'.copies ≡ memory.copies

-- a frame of zeros for a page of the file
abbrev pub zero_frame : ℕ → ℕ → Frame
zero_frame file page = record { page = record { file = file; page = page }; bytes = zero_page }

-- Free frames are used for the pages of the file from `first` to `end - 1`. Frames in use don't change.
pub record AddsPages (file first end : ℕ) (memory memory' : FramesState) : Type 0 where
  pub used : (frame : ℕ) (f : Frame) → frame_at memory frame ≡ Some f → frame_at memory' frame ≡ Some f
  pub free : (frame : ℕ) → frame_at memory frame ≡ None → (frame_at memory' frame ≡ None)
      ⊎ ((page : ℕ) × (first ≤ page) × (page < end) × (frame_at memory' frame ≡ Some (zero_frame file page)))
  pub added : (page : ℕ) → first ≤ page → page < end
      → (frame : ℕ) × Holds memory' frame (record { file = file; page = page })
  pub same_count : length memory'.frames ≡ length memory.frames
  pub same_copies : memory'.copies ≡ memory.copies

-- The frame contains a page of the file from `first` to `end - 1`.
abbrev pub HoldsAmong : FramesState → ℕ → ℕ → ℕ → ℕ → Type 0
HoldsAmong memory file first end frame = (page : ℕ) × (first ≤ page) × (page < end)
    × Holds memory frame (record { file = file; page = page })

-- The frames of the pages from `first` to `end - 1` are noted, and every noted frame stays noted.
pub record NotesPages (memory : FramesState) (file first end : ℕ) (old new : List Bool) : Type 0 where
  pub same_length : length new ≡ length old
  pub noted : (frame : ℕ) → (noted_in new frame ≡ true)
      ↔ ((noted_in old frame ≡ true) ⊎ HoldsAmong memory file first end frame)
