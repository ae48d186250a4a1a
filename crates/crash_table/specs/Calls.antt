-- The device calls of a run, as listed by a disk in memory.
use Rattle.std.specs.Prelude.{ℕ, ◌≡◌, false, List, [], ◌∷◌, ⊤, if◌then◌else◌, nat_le, ◌+◌}
use Rattle.device.specs.declared.device.Device.{Ghosts}
use Rattle.device.specs.Memory.{new_disk, seen_of, may_leave_of, moment_of, left_since_of}
use Rattle.machine.specs.declared.act.Reply.{Reply}
use Rattle.machine.specs.declared.act.Shape.{Shape}
use Rattle.machine.specs.declared.act.Step.{Step}
use Rattle.machine.specs.Runs.{StepTaken}
use Rattle.machine.specs.State.{Whole}
use Rattle.engine.specs.Engine.{HasRun, HasStarted}
use Rattle.crash_states.specs.Calls.{DeviceCall, ListedDisk, ListsItsCalls, listing}

-- the definitions of a device, for the disk in memory that lists its calls
abbrev pub listing_memory : Ghosts ListedDisk
listing_memory = record {
  seen = λ disk. seen_of disk.inner;
  may_leave = λ disk. may_leave_of disk.inner;
  moment = λ disk. moment_of disk.inner;
  left_since = λ disk. left_since_of disk.inner;
  calls_made = λ disk. disk.made;
  faults_met = λ disk. disk.faults;
  carried = λ disk. 0;
  is_honest = λ disk. ⊤;
}

-- The steps were answered with these replies. After each step, the device had counted the number of calls in `counts`.
abbrev pub StepsCountedBy : {D : Type 0} → Ghosts D → (D → ℕ) → Whole D → List Step → List Reply → List ℕ → Whole D
    → Type 0
StepsCountedBy disk calls old [] [] [] new = new ≡ old
StepsCountedBy {D} disk calls old (step ∷ steps) (reply ∷ replies) (count ∷ counts) new =
    (mid : Whole D) × StepTaken disk old step reply mid × (calls mid.device ≡ count)
    × StepsCountedBy disk calls mid steps replies counts new
StepsCountedBy disk calls old steps replies counts new = ⊥

-- the same, with the number of calls that were made of the device
abbrev pub StepsCounted : {D : Type 0} → Ghosts D → Whole D → List Step → List Reply → List ℕ → Whole D → Type 0
StepsCounted disk old steps replies counts new = StepsCountedBy disk disk.calls_made old steps replies counts new

-- A run was made on a disk in memory that lists its calls. It had these replies, these numbers of calls after each
-- step, and these calls, in order. None of the calls failed.
pub record AreMade (before : ListedDisk) (shape : Shape) (steps : List Step) (replies : List Reply) (counts : List ℕ)
    (calls : List DeviceCall) : Type 0 where
  pub start : Whole ListedDisk
  pub last : Whole ListedDisk
  pub started : HasStarted listing_memory before shape start
  pub counted : StepsCounted listing_memory start steps replies counts last
  pub ran : HasRun listing_memory before shape steps replies last.device
  pub complete : last.device.refused ≡ false
  pub sound : last.device.faults ≡ 0
  pub listed : calls ≡ last.device.calls
  pub are_its : ListsItsCalls last.device

-- These are the replies, counts and device calls of a run on a disk with these bytes.
abbrev pub AreCallsOf : List ℕ → Shape → List Step → List Reply → List ℕ → List DeviceCall → Type 0
AreCallsOf image shape steps replies counts calls =
    AreMade (listing (new_disk image) 0) shape steps replies counts calls

-- the number of steps that were answered before the device call of this number, if `counts` has the number of calls
-- after each step
abbrev pub steps_before : List ℕ → ℕ → ℕ
steps_before [] call = 0
steps_before (count ∷ counts) call = if nat_le call count then 0 else steps_before counts call + 1
