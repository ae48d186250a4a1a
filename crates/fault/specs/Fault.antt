-- How a page fault is served: the refusals in the order in which they are checked, and the changes if none applies.
-- See POSIX.1-2024, mmap, "References within the address range". For a store to a page whose record isn't written yet,
-- see Park, Kelly and Shen 2013.
use Rattle.std.specs.Prelude.{ℕ, ◌≡◌, ◌⊎◌, ◌*◌, ◌/◌, ◌^◌, ◌&&◌, ◌||◌, not, nat_le, Bool, true, false}
use Rattle.std.specs.Prelude.{List, Option, Some, None, Result, Ok, Err, slice_get, if◌then◌else◌}
use Rattle.std.specs.List.{list_any}
use Rattle.page_entry.specs.Entry.{Mapped}
use Rattle.page_entry.specs.declared.numbers.FilePage.{FilePage}
use Rattle.page_entry.specs.declared.refusal.Refusal.{Refusal}
use Rattle.page_entry.specs.declared.refusal.Refusal.TheVariants as refusals
use Rattle.mappings.specs.declared.place.Place.{Place}
use Rattle.mappings.specs.Places.{may_write}
use Rattle.frames.specs.Frames.{FramesState, has_free, with_page, with_copy}
use Rattle.spaces.specs.Spaces.{Spaces, entry_at, place_at, with_entry}
use Rattle.checkpoint.specs.Checkpoint.{CheckpointState, Holds, is_of_page, is_held}
use Rattle.checkpoint.specs.Backing.{page_at}

-- Answers the place if it allows the access. Otherwise the refusal is SegvMapErr if nothing is mapped, and SegvAccErr
-- for a store without the right to write.
abbrev pub allowed_place : Bool → Option Place → Result Place Refusal
allowed_place write None = Err refusals.SegvMapErr
allowed_place write (Some place) = if write && not (may_write place.rights) then Err refusals.SegvAccErr else Ok place

-- The place of the page at an address of a space. The refusal is Einval past the user addresses, SegvMapErr if nothing
-- is mapped, and SegvAccErr for a store without the right to write.
abbrev pub place_of_fault : Spaces → ℕ → ℕ → Bool → Result Place Refusal
place_of_fault spaces pcid va write =
    if nat_le (2 ^ 47) va then Err refusals.Einval else allowed_place write (place_at spaces pcid (va / 4096))

-- Whether a frame contains the page.
abbrev pub is_in_memory : FramesState → FilePage → Bool
is_in_memory memory owner = list_any (is_of_page owner) memory.frames

-- Rule: frozen page: A frozen page is copied before a store changes it. So the page's record contains the bytes at the
-- mark.
-- Whether a fault copies the page out: it is a fault of a store, and the page is held.
abbrev pub copies_out : FramesState → CheckpointState → FilePage → Bool → Bool
copies_out memory c owner write = write && is_held memory c owner

-- Rule: busadrerr: A fault isn't served if its page begins at or past the file's end.
-- Why a fault at a place isn't served, if the file has `length` bytes. The reasons are checked in this order:
-- - The page begins at or past the file's end.
-- - The fault is a store, the page is held, and no copy frame is free.
-- - The page isn't in memory, and no frame is free.
-- - The page isn't in memory, and the machine is broken.
-- If none applies, the read may still fail.
abbrev pub fault_refusal : FramesState → CheckpointState → Bool → Place → ℕ → Bool → Option Refusal
fault_refusal memory c broken place length write =
    if nat_le length (4096 * place.page) then Some refusals.BusAdrErr
    else (if copies_out memory c (page_at place) write && not (has_free memory.copies) then Some refusals.Held
    else (if is_in_memory memory (page_at place) then None
    else (if not (has_free memory.frames) then Some refusals.NoFrame
    else (if broken then Some refusals.Device else None))))

-- Rule: free frame: A page gets any free frame. The answer is `noframe` only if no frame is free.
-- The frames after a page is brought into `frame`. Either `frame` already contained the page, or it was free and gets
-- the page with these bytes.
abbrev pub Brings : FramesState → FilePage → List ℕ → ℕ → FramesState → Type 0
Brings memory owner bytes frame new =
    (Holds memory frame owner × (new ≡ memory))
    ⊎ ((is_in_memory memory owner ≡ false) × (slice_get memory.frames frame ≡ Some None)
    × (new ≡ with_page memory frame owner bytes))

-- The frames after a fault that copies the frame into a free copy frame, or that copies nothing.
abbrev pub CopiesOut : Bool → FramesState → ℕ → FramesState → Type 0
CopiesOut false memory frame new = new ≡ memory
CopiesOut true memory frame new =
    (copy : ℕ) × (slice_get memory.copies copy ≡ Some None) × (new ≡ with_copy memory copy frame)

-- The entry that serves a fault. An entry that allows the access stays as it is. A new entry maps `frame`, and is
-- neither accessed nor dirty. A new entry, and one that doesn't allow the access, is writable if `can_write` is true.
abbrev pub fixed_entry : Option Mapped → ℕ → Bool → Bool → Mapped
fixed_entry None frame can_write write = record { frame = frame; writable = can_write; accessed = false; dirty = false }
fixed_entry (Some entry) frame can_write write =
    if not write || entry.writable then entry else record entry { writable = can_write }

-- Whether an entry for this place may be writable: the mapping allows writes, and the page isn't held.
abbrev pub may_be_writable : FramesState → CheckpointState → Place → Bool
may_be_writable memory c place = may_write place.rights && not (is_held memory c (page_at place))

-- A fault at this page of the space was served. `place` is the page's place. `bytes` are the page's bytes on the
-- device, if the page had to be read.
pub record FaultServed (spaces : Spaces) (memory : FramesState) (c : CheckpointState) (pcid page : ℕ) (place : Place)
    (write : Bool) (bytes : List ℕ) (spaces' : Spaces) (memory' : FramesState) : Type 0 where
  pub frame : ℕ
  -- the frames once the page is in `frame`
  pub mid : FramesState
  pub brought : Brings memory (page_at place) bytes frame mid
  -- a store to a held page copies the page's bytes first
  pub copied : CopiesOut (copies_out memory c (page_at place) write) mid frame memory'
  -- a new or changed entry is writable if the mapping allows it and the page is no longer held
  pub entry : spaces' ≡ with_entry spaces pcid page
      (Some (fixed_entry (entry_at spaces pcid page) frame (may_be_writable memory' c place) write))
