-- How a change of a file's length changes pages. Pages past the new end leave memory. Bytes past the end in the last
-- page become zeros. A growth adds pages of zeros (POSIX.1-2024, ftruncate).
use Rattle.std.specs.Prelude.{ℕ, ◌≡◌, ◌↔◌, ◌⊎◌, ◌==◌, ◌&&◌, ◌+◌, ◌-◌, ◌*◌, ◌/◌, ◌<◌, ◌≤◌, nat_le, min}
use Rattle.std.specs.Prelude.{Bool, true, ◌++◌, List, length, take, Some, None, IsSome, if◌then◌else◌}
use Rattle.page_entry.specs.declared.numbers.FilePage.{FilePage}
use Rattle.frames.specs.Frames.{FramesState, Frame, frame_at, blank_bytes, zero_page}
use Rattle.spaces.specs.Spaces.{Spaces, EditsEntries}
use Rattle.spaces.specs.Changes.{without_past}
use Rattle.checkpoint.specs.Checkpoint.{CheckpointState, Holds, is_noted}
use Rattle.checkpoint.specs.Backing.{HoldsEachOnce}

-- the number of pages that contain this number of bytes
abbrev pub pages : ℕ → ℕ
pages length = (length + 4095) / 4096

-- whether a page is of this file and begins at or past this length
abbrev pub is_past : ℕ → ℕ → FilePage → Bool
is_past file length owner = owner.file == file && nat_le length (4096 * owner.page)

-- a page's bytes, with zeros from byte n on
abbrev pub cut_page : ℕ → List ℕ → List ℕ
cut_page n bytes = take n bytes ++ blank_bytes (4096 - n)

-- a frame, with zeros from byte `end` of the file on
abbrev pub cut_frame : ℕ → ℕ → Frame → Frame
cut_frame file end f =
    if f.page.file == file then record f { bytes = cut_page (end - 4096 * f.page.page) f.bytes } else f

-- The page begins at or past the old end of the file, and before the new end.
pub record IsAdded (old new page : ℕ) : Type 0 where
  pub past : old ≤ 4096 * page
  pub before : 4096 * page < new

-- A growth touches the page: it adds the page, or the file ended in it.
pub record IsGrown (old new page : ℕ) : Type 0 where
  pub grows : old < new
  pub from : old / 4096 ≤ page
  pub before : 4096 * page < new

-- The length of a file changed from `old` to `new`. Any free frames may be used for the added pages.
pub record PagesResized (spaces : Spaces) (memory : FramesState) (c : CheckpointState) (file old new : ℕ)
    (spaces' : Spaces) (memory' : FramesState) (c' : CheckpointState) : Type 0 where
  -- Entries of pages past the new end are removed.
  pub cleared : EditsEntries (without_past file new spaces) spaces spaces'
  -- Pages past the new end leave memory. Bytes from the smaller of the two lengths on are zeros.
  pub used : (frame : ℕ) (f : Frame) → frame_at memory frame ≡ Some f
      → frame_at memory' frame ≡ (if is_past file new f.page then None else Some (cut_frame file (min old new) f))
  -- A free frame stays free, or contains an added page of zeros.
  pub free : (frame : ℕ) → frame_at memory frame ≡ None → (frame_at memory' frame ≡ None)
      ⊎ ((page : ℕ) × IsAdded old new page
      × (frame_at memory' frame ≡ Some (record { page = record { file = file; page = page }; bytes = zero_page })))
  -- Each added page is in memory.
  pub added : (page : ℕ) → IsAdded old new page
      → (frame : ℕ) × Holds memory' frame (record { file = file; page = page })
  pub once : HoldsEachOnce memory'
  pub same_count : length memory'.frames ≡ length memory.frames
  pub same_copies : memory'.copies ≡ memory.copies
  -- The frames of pages that a growth touches are noted, frames that became free aren't, and other notes don't change.
  pub same_notes : length c'.notes ≡ length c.notes
  pub noted : (frame : ℕ) → (is_noted c' frame ≡ true)
      ↔ (((is_noted c frame ≡ true) × IsSome (frame_at memory' frame))
      ⊎ ((page : ℕ) × IsGrown old new page × Holds memory' frame (record { file = file; page = page })))
  pub frozen : c'.frozen ≡ c.frozen
