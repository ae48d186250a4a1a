-- Which pages are dirty, which are frozen until their records are written, and how a checkpoint changes entries and
-- notes. An msync commits all stores since the last msync, and no later store may reach the journal before it does
-- (Park, Kelly and Shen 2013).
use Rattle.std.specs.Prelude.{ℕ, ◌≡◌, ◌⊎◌, ◌↔◌, ◌==◌, ◌&&◌, not, Bool, true, false, List, [], ◌∷◌, length, map}
use Rattle.std.specs.Prelude.{replicate, drop, Option, Some, None, slice_index_or, Contains, if◌then◌else◌}
use Rattle.std.specs.List.{list_any}
use Rattle.page_entry.specs.Entry.{Mapped}
use Rattle.page_entry.specs.declared.numbers.FilePage.{FilePage}
use Rattle.mappings.specs.declared.page_range.PageRange.{PageRange}
use Rattle.mappings.specs.Places.{is_among}
use Rattle.frames.specs.Frames.{FramesState, Frame, frame_at, IsBefore, page_of}
use Rattle.spaces.specs.Spaces.{Spaces, entry_at, place_at, EditsEntries}
use Rattle.spaces.specs.Changes.{is_place_of, protected_where}

pub record CheckpointState : Type 0 where
  -- For each frame: whether, since the last mark, a dirty entry of it was removed, or a growth of its file touched it.
  pub notes : List Bool
  -- the pages whose records aren't written yet, in the order of their home blocks
  pub frozen : List FilePage

-- the state at boot, with this number of frames
abbrev pub fresh_checkpoint : ℕ → CheckpointState
fresh_checkpoint frames = record { notes = replicate frames false; frozen = [] }

-- whether both are the same page of the same file
abbrev pub same_page : FilePage → FilePage → Bool
same_page a b = a.file == b.file && a.page == b.page

abbrev pub is_noted : CheckpointState → ℕ → Bool
is_noted c frame = slice_index_or c.notes frame false

abbrev pub is_frozen : CheckpointState → FilePage → Bool
is_frozen c owner = list_any (same_page owner) c.frozen

-- The frame contains this page of a file.
abbrev pub Holds : FramesState → ℕ → FilePage → Type 0
Holds memory frame owner = page_of (frame_at memory frame) ≡ Some owner

-- whether the frame is in use and contains this page
abbrev pub is_of_page : FilePage → Option Frame → Bool
is_of_page owner None = false
is_of_page owner (Some frame) = same_page owner frame.page

-- whether a copy frame contains the page's bytes
abbrev pub is_copied : FramesState → FilePage → Bool
is_copied memory owner = list_any (is_of_page owner) memory.copies

-- whether a store to the page has to wait: its record isn't written yet, and its bytes aren't copied
abbrev pub is_held : FramesState → CheckpointState → FilePage → Bool
is_held memory c owner = is_frozen c owner && not (is_copied memory owner)

-- A present entry of a page that is `among` maps the frame, and is dirty.
pub record HasDirtyEntry (spaces : Spaces) (among : ℕ → ℕ → Type 0) (frame : ℕ) : Type 0 where
  pub pcid : ℕ
  pub page : ℕ
  pub there : among pcid page
  pub entry : Mapped
  pub present : entry_at spaces pcid page ≡ Some entry
  pub same_frame : entry.frame ≡ frame
  pub dirty : entry.dirty ≡ true

-- The page in the frame is dirty: since the last mark it got a store, or a growth of its file touched it. A store
-- leaves a dirty entry, or a note if that entry was removed. A growth leaves a note.
abbrev pub IsDirty : Spaces → CheckpointState → ℕ → Type 0
IsDirty spaces c frame = (is_noted c frame ≡ true) ⊎ HasDirtyEntry spaces (λ pcid page. Unit {0}) frame

-- The pages are in the order of their home blocks, and no page occurs twice.
abbrev pub AreRising : List FilePage → Type 0
AreRising [] = Unit {0}
AreRising (owner ∷ []) = Unit {0}
AreRising (owner ∷ next ∷ owners) = IsBefore owner next × AreRising (next ∷ owners)

-- The list contains exactly the dirty pages, in the order of their home blocks.
pub record AreGathered (spaces : Spaces) (memory : FramesState) (c : CheckpointState)
    (pages : List FilePage) : Type 0 where
  pub rising : AreRising pages
  pub dirty : (owner : FilePage) → Contains pages owner
      ↔ ((frame : ℕ) × Holds memory frame owner × IsDirty spaces c frame)

-- After gathering, exactly the dirty frames are noted. If the commit freezes pages, the gathered pages are frozen.
-- Otherwise no page is.
pub record Gathers (spaces : Spaces) (memory : FramesState) (old new : CheckpointState) (freezes : Bool)
    (pages : List FilePage) : Type 0 where
  pub gathered : AreGathered spaces memory old pages
  pub same_length : length new.notes ≡ length old.notes
  pub noted : (frame : ℕ) → (is_noted new frame ≡ true) ↔ IsDirty spaces old frame
  pub frozen : new.frozen ≡ (if freezes then pages else [])

-- Every entry of a noted frame is protected, in every space, even if the entry isn't dirty.
abbrev pub ProtectsNoted : CheckpointState → Spaces → Spaces → Type 0
ProtectsNoted c old new = EditsEntries (λ pcid page entry. protected_where (is_noted c) entry) old new

abbrev pub without_notes : CheckpointState → CheckpointState
without_notes c = record c { notes = replicate (length c.notes) false }

-- The entries of these pages are removed. A frame is noted afterwards if it was noted before, or if one of these
-- entries maps it and is dirty.
pub record NotesTaken (spaces : Spaces) (taken : ℕ → ℕ → Type 0) (old new : CheckpointState) : Type 0 where
  pub same_length : length new.notes ≡ length old.notes
  pub noted : (frame : ℕ) → (is_noted new frame ≡ true)
      ↔ ((is_noted old frame ≡ true) ⊎ HasDirtyEntry spaces taken frame)
  pub frozen : new.frozen ≡ old.frozen

-- The space q is `pcid`, and the page is in the range.
abbrev pub IsInRange : ℕ → PageRange → ℕ → ℕ → Type 0
IsInRange pcid range q page = (q ≡ pcid) × (is_among range.first range.count page ≡ true)

abbrev pub IsInSpace : ℕ → ℕ → ℕ → Type 0
IsInSpace pcid q page = q ≡ pcid

-- This page of a space maps this page of a file.
abbrev pub IsMappingOf : Spaces → FilePage → ℕ → ℕ → Type 0
IsMappingOf spaces owner q page = is_place_of owner (place_at spaces q page) ≡ true

-- a copy frame, freed if it contains this page's bytes
abbrev pub freed_copy : FilePage → Option Frame → Option Frame
freed_copy owner copy = if is_of_page owner copy then None else copy

abbrev pub without_copy_of : FramesState → FilePage → FramesState
without_copy_of memory owner = record memory { copies = map (freed_copy owner) memory.copies }

-- Each copy frame that contains the bytes of a frozen page is freed.
abbrev pub freed_if : Bool → Frame → Option Frame
freed_if true copy = None
freed_if false copy = Some copy

abbrev pub freed_if_frozen : CheckpointState → Option Frame → Option Frame
freed_if_frozen c None = None
freed_if_frozen c (Some copy) = freed_if (is_frozen c copy.page) copy

abbrev pub without_frozen_copies : FramesState → CheckpointState → FramesState
without_frozen_copies memory c = record memory { copies = map (freed_if_frozen c) memory.copies }

-- Each copy frame in use contains the bytes of a frozen page.
abbrev pub AreCopiesOfFrozen : FramesState → CheckpointState → Type 0
AreCopiesOfFrozen memory c =
    (copy : ℕ) (frame : Frame) → slice_index_or memory.copies copy None ≡ Some frame → is_frozen c frame.page ≡ true

-- the state after the first frozen page's record is written: that page isn't frozen any more
abbrev pub released : CheckpointState → CheckpointState
released c = record c { frozen = drop 1 c.frozen }

abbrev pub thawed : CheckpointState → CheckpointState
thawed c = record c { frozen = [] }
