-- How serving a fault uses the device, and what it answers.
use Rattle.std.specs.Prelude.{ℕ, ◌≡◌, ◌⊎◌, ◌↔◌, ◌-◌, ◌*◌, ◌&&◌, not, Bool, true, is_none, List, ◌++◌}
use Rattle.std.specs.Prelude.{length, take, drop, replicate, Option, Some, None, if◌then◌else◌}
use Rattle.page_entry.specs.declared.refusal.Refusal.{Refusal}
use Rattle.page_entry.specs.declared.refusal.Refusal.TheVariants as refusals
use Rattle.device.specs.Count.{raised}
use Rattle.device.specs.Device.{LeavesOnly}
use Rattle.mappings.specs.Places.{may_write}
use Rattle.frames.specs.Frames.{FramesState, IsPage}
use Rattle.spaces.specs.Spaces.{Spaces}
use Rattle.checkpoint.specs.Checkpoint.{CheckpointState}
use Rattle.checkpoint.specs.Backing.{page_at}
use Rattle.fault.specs.declared.page_fault.PageFault.{PageFault}
use Rattle.fault.specs.Fault.{is_in_memory, fault_refusal, FaultServed}

-- The 4,096 bytes of the disk from the offset `home`.
abbrev pub block_from : List ℕ → ℕ → List ℕ
block_from disk home = take 4096 (drop home disk)

-- Rule: zeros past the end: When a page is read from the device, its bytes past the file's end become zeros, even if
-- the device has other bytes there.
-- The page's bytes up to the file's end, then zeros. `length_of` is the file's length.
abbrev pub cut_to_length : ℕ → ℕ → List ℕ → List ℕ
cut_to_length length_of page bytes =
    let kept = take (length_of - 4096 * page) bytes in
    kept ++ replicate (4096 - length kept) 0

-- `bytes` were read for this page: a whole block, cut at the file's end. On an honest device it is the block at the
-- offset `home`.
pub record IsReadFrom (honest : Type 0) (disk : List ℕ) (home length_of page : ℕ) (bytes : List ℕ) : Type 0 where
  pub block : List ℕ
  pub whole : IsPage block
  pub there : honest → block ≡ block_from disk home
  pub cut : bytes ≡ cut_to_length length_of page block

-- Why a fault isn't served, as decided before anything is read. It is a store whose place doesn't allow writes, or
-- `fault_refusal` refuses it.
abbrev pub refusal_of : FramesState → CheckpointState → PageFault → Option Refusal
refusal_of memory c fault =
    if fault.write && not (may_write fault.place.rights) then Some refusals.SegvAccErr
    else fault_refusal memory c fault.broken fault.place fault.length fault.write

-- Whether the device is read: no refusal applies, and the page isn't in memory.
abbrev pub reads_home : FramesState → CheckpointState → PageFault → Bool
reads_home memory c fault = is_none (refusal_of memory c fault) && not (is_in_memory memory (page_at fault.place))

-- The device `new` is `old` after one page was read, or after one read failed. Nothing was written.
pub record ReadsOnce {D : Type 0} (seen : D → List ℕ) (may_leave : D → List ℕ → Type 0) (is_honest : D → Type 0)
    (moment : D → ℕ) (left_since : D → ℕ → List ℕ → Type 0) (calls faults : D → ℕ) (failed : Bool)
    (old new : D) : Type 0 where
  pub same : is_honest old → seen new ≡ seen old
  pub keeps : is_honest old → (c : List ℕ) → may_leave old c → may_leave new c
  pub left : (c : List ℕ) → may_leave new c → may_leave old c
  pub time : LeavesOnly moment left_since old new (may_leave old)
  pub honest : is_honest new ↔ is_honest old
  pub len : length (seen new) ≡ length (seen old)
  -- one more call, and one more fault if the call failed
  pub one_call : calls new ≡ raised (calls old)
  pub one_fault : faults new ≡ (if failed then raised (faults old) else faults old)

-- Why a fault was refused: the first of these reasons, or a failed read.
abbrev pub FixRefused : FramesState → CheckpointState → PageFault → Refusal → Type 0
FixRefused memory c fault why =
    (refusal_of memory c fault ≡ Some why) ⊎ ((reads_home memory c fault ≡ true) × (why ≡ refusals.Device))

-- A fault was served.
pub record FixDone (honest : Type 0) (disk : List ℕ) (spaces : Spaces) (memory : FramesState) (c : CheckpointState)
    (fault : PageFault) (spaces' : Spaces) (memory' : FramesState) : Type 0 where
  -- no refusal applies
  pub allowed : refusal_of memory c fault ≡ None
  -- the bytes that were read, if the page wasn't in memory
  pub bytes : List ℕ
  pub read : reads_home memory c fault ≡ true → IsReadFrom honest disk fault.home fault.length fault.place.page bytes
  -- the page is in memory, with `bytes` if they were read, and its entry is present
  pub served : FaultServed spaces memory c fault.pcid fault.page fault.place fault.write bytes spaces' memory'
