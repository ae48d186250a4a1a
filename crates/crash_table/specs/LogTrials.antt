-- A run over a volume with a log, and what a crash within it leaves: the files at one of its marks.
use Rattle.std.specs.Prelude.{ℕ, ◌≡◌, ◌⊎◌, ◌≤◌, false, List, slice_get, Some, alloc_error}
use Rattle.device.specs.Memory.{new_disk, seen_of, may_leave_of, after_stop}
use Rattle.page_entry.specs.declared.refusal.Refusal.{Refusal}
use Rattle.volume_codec.specs.Files.{File}
use Rattle.machine.specs.declared.act.Reply.{Reply}
use Rattle.machine.specs.declared.act.Reply.TheVariants.{Committed}
use Rattle.machine.specs.declared.act.Shape.{Shape}
use Rattle.machine.specs.declared.act.Step.{Step}
use Rattle.engine.specs.Engine.{HasNotStarted}
use Rattle.log_volume.specs.Files.{RecoversToLog}
use Rattle.machine_log.specs.Disk.{LogDiskValue, shown_by}
use Rattle.machine_log.specs.Opening.{HasShown, RefusesDisk}
use Rattle.crash_states.specs.declared.crash_fault.CrashFault.{CrashFault}
use Rattle.crash_states.specs.declared.crash_fault.CrashFault.TheVariants.{Memory, Otherwise}
use Rattle.crash_states.specs.Calls.{DeviceCall, ListedDisk, ListsItsCalls, listing}
use Rattle.crash_table.specs.Calls.{listing_memory}
use Rattle.crash_table.specs.Crashes.{IsUpTo}
use Rattle.crash_table.specs.Marks.{contents_of, IsNewest}
use Rattle.crash_table.specs.Trials.{TrialValue, HasNoTrial, cause_of}
use Rattle.crash_table.specs.Runs.{AreCallsByLog, HasEndedByLog}
use Rattle.crash_table.specs.Twins.{TwinValue}

-- The trial's replies and calls are those of its run.
abbrev pub HasItsCallsByLog : TrialValue → Type 0
HasItsCallsByLog trial =
    AreCallsByLog trial.image trial.shape trial.steps trial.replies trial.counts trial.calls

-- The found files are those at the mark `number`, the newest mark with these files. If the number is 0, they are the
-- files before the run. No later mark was acknowledged.
pub record IsAtMarkByLog (files : List File) (shape : Shape) (steps : List Step) (replies : List Reply)
    (found : List File) (number : ℕ) : Type 0 where
  pub newest : IsNewest files shape steps replies (contents_of found) number
  pub first : number ≡ 0 → contents_of found ≡ contents_of files
  pub durable : (i k : ℕ) → slice_get replies i ≡ Some (Committed k) → k ≤ number

-- A run with these device calls was made over a volume with a log, on a disk in memory with the bytes `image`. The
-- device call with the number `fails` failed and ended the run; if there is no such call, the run was complete. Then a
-- crash left `choice` in the places that were written and not synced, which a crash may do. The bytes recover by their
-- log to the files at the mark `number`, by the replies before the call failed.
pub record LeavesMarkByLog (image : List ℕ) (shape : Shape) (steps : List Step) (calls : List DeviceCall) (fails : ℕ)
    (choice : List ℕ) (number : ℕ) : Type 0 where
  pub replies : List Reply
  pub after : ListedDisk
  pub ended : HasEndedByLog listing_memory (listing (new_disk image) fails) shape steps replies after
  pub complete : after.refused ≡ false
  pub are_its : ListsItsCalls after
  pub up_to_call : IsUpTo calls fails steps replies after
  pub left : may_leave_of after.inner (seen_of (after_stop after.inner choice))
  pub files : List File
  pub before : RecoversToLog image files
  pub found : List File
  pub recovers : RecoversToLog (seen_of (after_stop after.inner choice)) found
  pub at_mark : IsAtMarkByLog files shape steps replies found number

-- A crash within the device call `call` left, by this choice, the files at this mark.
abbrev pub LeavesByLog : TrialValue → ℕ → List ℕ → ℕ → Type 0
LeavesByLog trial call choice mark =
    LeavesMarkByLog trial.image trial.shape trial.steps trial.calls call choice mark

-- Why a row isn't made: memory was refused, or the run had other replies when it was repeated.
abbrev pub MayFail : CrashFault → Type 0
MayFail why = (why ≡ Memory alloc_error) ⊎ (why ≡ Otherwise)

-- Why no run is listed on this disk: memory was refused, no disk shows its volume, or no machine of this shape can be
-- started over that disk.
abbrev pub IsNotListedByLog : ListedDisk → Shape → CrashFault → Type 0
IsNotListedByLog disk shape why = (why ≡ Memory alloc_error)
    ⊎ ((refusal : Refusal) × (why ≡ cause_of refusal) × RefusesDisk (seen_of disk.inner) refusal)
    ⊎ ((refusal : Refusal) × (shown after : LogDiskValue ListedDisk) × (why ≡ cause_of refusal)
    × HasShown listing_memory disk shown × HasNotStarted (shown_by listing_memory) shown shape after refusal)

-- Why these volumes have no trial: no run is listed on the one with a log, or the other one has no trial.
abbrev pub HasNoTrialByLog : TwinValue → Shape → CrashFault → Type 0
HasNoTrialByLog twin shape why = IsNotListedByLog (listing (new_disk twin.image) 0) shape why
    ⊎ HasNoTrial twin.shown shape why
