-- How frames are noted, and which pages are gathered by the notes.
use Rattle.std.specs.Prelude.{ℕ, zero, suc, ◌≡◌, ◌⊎◌, ◌↔◌, ◌≤◌, Bool, true, false, List, [], ◌∷◌, ◌++◌}
use Rattle.std.specs.Prelude.{length, Option, None, slice_index_or, Contains, if◌then◌else◌}
use Rattle.std.specs.Option.{option_to_list}
use Rattle.page_entry.specs.declared.numbers.FilePage.{FilePage}
use Rattle.frames.specs.Frames.{FramesState, frame_at, page_of}
use Rattle.spaces.specs.Spaces.{Spaces}
use Rattle.checkpoint.specs.Checkpoint.{HasDirtyEntry, Holds, AreRising, without_copy_of}

-- whether the frame is noted as dirty
abbrev pub noted_in : List Bool → ℕ → Bool
noted_in notes frame = slice_index_or notes frame false

-- The frames of the dirty entries of these pages are noted, and every noted frame stays noted.
pub record AreNoted (spaces : Spaces) (among : ℕ → ℕ → Type 0) (old new : List Bool) : Type 0 where
  pub same_length : length new ≡ length old
  pub noted : (frame : ℕ) → (noted_in new frame ≡ true)
      ↔ ((noted_in old frame ≡ true) ⊎ HasDirtyEntry spaces among frame)

-- any page of any space
abbrev pub IsAnyPage : ℕ → ℕ → Type 0
IsAnyPage pcid page = Unit {0}

-- the page in a frame, if the frame is noted
abbrev pub noted_page : FramesState → List Bool → ℕ → Option FilePage
noted_page memory notes frame = if noted_in notes frame then page_of (frame_at memory frame) else None

-- the pages of the noted frames among the frames `at` 0 to n-1
abbrev pub noted_at : FramesState → List Bool → (ℕ → ℕ) → ℕ → List FilePage
noted_at memory notes at zero = []
noted_at memory notes at (suc n) = noted_at memory notes at n ++ option_to_list (noted_page memory notes (at n))

-- The list contains exactly the pages of the noted frames, in the order of their home blocks.
pub record AreNotedPages (memory : FramesState) (notes : List Bool) (pages : List FilePage) : Type 0 where
  pub rising : AreRising pages
  pub noted : (owner : FilePage) → Contains pages owner
      ↔ ((frame : ℕ) × Holds memory frame owner × (noted_in notes frame ≡ true))

-- the frames, after the copies of these pages are freed one after the other
abbrev pub without_copies_of : FramesState → List FilePage → FramesState
without_copies_of memory [] = memory
without_copies_of memory (owner ∷ owners) = without_copies_of (without_copy_of memory owner) owners

-- An invariant of a checkpoint. The gathered pages are in the order of their home blocks. There is room for a page of
-- each frame. At most all gathered pages are released.
pub record IsKept (notes : List Bool) (pages : List FilePage) (room released : ℕ) : Type 0 where
  pub rising : AreRising pages
  pub ample : length notes ≤ room
  pub some_left : released ≤ length pages
