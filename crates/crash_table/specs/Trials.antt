-- A run that is made once, and again for each crash.
use Rattle.std.specs.Prelude.{ℕ, ◌≡◌, ◌⊎◌, List, alloc_error}
use Rattle.device.specs.Memory.{new_disk}
use Rattle.page_entry.specs.declared.refusal.Refusal.{Refusal}
use Rattle.page_entry.specs.declared.refusal.Refusal.TheVariants.{Device, OutOfMemory}
use Rattle.machine.specs.declared.act.Reply.{Reply}
use Rattle.machine.specs.declared.act.Shape.{Shape}
use Rattle.machine.specs.declared.act.Step.{Step}
use Rattle.engine.specs.Engine.{HasNotStarted}
use Rattle.crash_states.specs.declared.crash_fault.CrashFault.{CrashFault}
use Rattle.crash_states.specs.declared.crash_fault.CrashFault.TheVariants.{Memory, Refused}
use Rattle.crash_states.specs.Calls.{DeviceCall, ListedDisk, listing}
use Rattle.crash_table.specs.Calls.{AreCallsOf, listing_memory}
use Rattle.crash_table.specs.Crashes.{LeavesMark}

-- A run on copies of a disk with the bytes `image`: the machine's shape, the steps, their replies, and the device
-- calls. `counts` has the number of device calls after each step.
pub record TrialValue : Type 0 where
  pub image : List ℕ
  pub shape : Shape
  pub steps : List Step
  pub replies : List Reply
  pub counts : List ℕ
  pub calls : List DeviceCall

-- The replies, counts and calls are those of the run.
abbrev pub HasItsCalls : TrialValue → Type 0
HasItsCalls trial = AreCallsOf trial.image trial.shape trial.steps trial.replies trial.counts trial.calls

-- A crash within the device call of this number left, with this choice, the files at this mark.
abbrev pub Leaves : TrialValue → ℕ → List ℕ → ℕ → Type 0
Leaves trial call choice mark = LeavesMark trial.image trial.shape trial.steps trial.calls call choice mark

-- The fault for a refusal over a disk in memory. Calls of such a disk fail only for a lack of memory.
abbrev pub cause_of : Refusal → CrashFault
cause_of Device = Memory alloc_error
cause_of OutOfMemory = Memory alloc_error
cause_of refusal = Refused refusal

-- Why no run is listed on this disk: there is no memory, or no machine of this shape can be started over it.
abbrev pub IsNotListed : ListedDisk → Shape → CrashFault → Type 0
IsNotListed disk shape why = (why ≡ Memory alloc_error)
    ⊎ ((refusal : Refusal) × (after : ListedDisk) × (why ≡ cause_of refusal)
    × HasNotStarted listing_memory disk shape after refusal)

-- Why there is no trial on a disk with these bytes.
abbrev pub HasNoTrial : List ℕ → Shape → CrashFault → Type 0
HasNoTrial image shape why = IsNotListed (listing (new_disk image) 0) shape why
