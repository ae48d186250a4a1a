-- Each present entry of the page tables maps a frame that contains its page. The entry is writable only if the mapping
-- allows it. No entry lets a store reach a frozen page.
use Rattle.std.specs.Prelude.{ℕ, ◌≡◌, ◌<◌, true, false, Some}
use Rattle.page_entry.specs.Entry.{Mapped}
use Rattle.page_entry.specs.declared.numbers.FilePage.{FilePage}
use Rattle.mappings.specs.declared.place.Place.{Place}
use Rattle.mappings.specs.Places.{may_write}
use Rattle.frames.specs.Frames.{FramesState}
use Rattle.spaces.specs.Spaces.{Spaces, entry_at, place_at}
use Rattle.checkpoint.specs.Checkpoint.{CheckpointState, Holds, is_held}

-- the page of the file at a place
abbrev pub page_at : Place → FilePage
page_at place = record { file = place.file; page = place.page }

-- A present entry agrees with the page's mapping. Its frame contains the mapped page of the file. The entry is writable
-- only if the mapping's rights allow it and no store to the page has to wait.
pub record IsBacked (memory : FramesState) (c : CheckpointState) (spaces : Spaces) (pcid page : ℕ)
    (entry : Mapped) : Type 0 where
  pub place : Place
  pub mapped : place_at spaces pcid page ≡ Some place
  pub held : Holds memory entry.frame (page_at place)
  pub allowed : entry.writable ≡ true → may_write place.rights ≡ true
  pub thawed : entry.writable ≡ true → is_held memory c (page_at place) ≡ false

-- Each present entry is backed.
abbrev pub AreBacked : FramesState → CheckpointState → Spaces → Type 0
AreBacked memory c spaces =
    (pcid page : ℕ) (entry : Mapped) → entry_at spaces pcid page ≡ Some entry → IsBacked memory c spaces pcid page entry

-- No two frames contain the same page of a file.
abbrev pub HoldsEachOnce : FramesState → Type 0
HoldsEachOnce memory = (a b : ℕ) (owner : FilePage) → Holds memory a owner → Holds memory b owner → a ≡ b

-- Each present entry maps one of the first `count` frames, which are the frames that have notes.
abbrev pub HasNotes : Spaces → ℕ → Type 0
HasNotes spaces count =
    (pcid page : ℕ) (entry : Mapped) → entry_at spaces pcid page ≡ Some entry → entry.frame < count
