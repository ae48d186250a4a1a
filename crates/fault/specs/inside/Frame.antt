-- How the page of a fault is brought into a frame: the plan, and the result.
use Rattle.std.specs.Prelude.{ℕ, ◌≡◌, true, false, List, Some, None, slice_get, if◌then◌else◌}
use Rattle.page_entry.specs.declared.refusal.Refusal.TheVariants as refusals
use Rattle.frames.specs.Frames.{FramesState, has_free, with_page}
use Rattle.checkpoint.specs.Checkpoint.{CheckpointState, Holds}
use Rattle.checkpoint.specs.Backing.{page_at}
use Rattle.fault.specs.declared.page_fault.PageFault.{PageFault}
use Rattle.fault.specs.declared.plan.Plan.{Plan}
use Rattle.fault.specs.declared.plan.Plan.TheVariants.{Keep, Copy, Read}
use Rattle.fault.specs.Fault.{copies_out, Brings, CopiesOut}
use Rattle.fault.specs.Fixing.{IsReadFrom, refusal_of, reads_home}

-- The plan fits the fault.
-- - Keep: the frame contains the page, and no copy is needed.
-- - Copy: the frame contains the page, and must be copied. Without a free copy frame, the fault is refused.
-- - Read: the page must be read, and no copy is needed.
abbrev pub IsPlanned : FramesState → CheckpointState → PageFault → Plan → Type 0
IsPlanned memory c fault (Keep frame) =
    Holds memory frame (page_at fault.place) × (copies_out memory c (page_at fault.place) fault.write ≡ false)
    × (refusal_of memory c fault ≡ None)
IsPlanned memory c fault (Copy frame) =
    Holds memory frame (page_at fault.place) × (copies_out memory c (page_at fault.place) fault.write ≡ true)
    × (refusal_of memory c fault ≡ (if has_free memory.copies then None else Some refusals.Held))
IsPlanned memory c fault Read =
    (reads_home memory c fault ≡ true) × (copies_out memory c (page_at fault.place) fault.write ≡ false)

-- The page was read into a free frame.
pub record IsReadIn (honest : Type 0) (disk : List ℕ) (memory : FramesState) (fault : PageFault) (frame : ℕ)
    (new : FramesState) : Type 0 where
  pub bytes : List ℕ
  pub read : IsReadFrom honest disk fault.home fault.length fault.place.page bytes
  pub free : slice_get memory.frames frame ≡ Some None
  pub taken : new ≡ with_page memory frame (page_at fault.place) bytes

-- The page is in `frame`. Its bytes were copied if the fault is a store to a held page.
pub record IsInFrame (honest : Type 0) (disk : List ℕ) (memory : FramesState) (c : CheckpointState) (fault : PageFault)
    (frame : ℕ) (new : FramesState) : Type 0 where
  pub allowed : refusal_of memory c fault ≡ None
  pub bytes : List ℕ
  pub read : reads_home memory c fault ≡ true → IsReadFrom honest disk fault.home fault.length fault.place.page bytes
  pub mid : FramesState
  pub brought : Brings memory (page_at fault.place) bytes frame mid
  pub copied : CopiesOut (copies_out memory c (page_at fault.place) fault.write) mid frame new
