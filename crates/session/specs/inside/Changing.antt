-- A change, from its beginning to its end.
use Rattle.std.specs.Prelude.{ℕ, ◌≡◌, ◌≢◌, ◌<◌, Bool, true, false, List, None, Some}
use Rattle.device.specs.declared.device.Device.{Ghosts}
use Rattle.spaces.specs.declared.change.Change.{Change}
use Rattle.spaces.specs.declared.change.Change.TheVariants.{Unmap, Protect, Reclaim, SetLength, Checkpoint}
use Rattle.shootdown.specs.declared.proc_state.ProcState.{ProcState}
use Rattle.shootdown.specs.declared.proc_state.ProcState.TheVariants.{Active, Interrupted, Initiating}
use Rattle.shootdown.specs.Shootdown.{state_of}
use Rattle.machine.specs.declared.act.Reply.{Reply}
use Rattle.machine.specs.declared.act.Reply.TheVariants.{Unmapped, Protected, Resized}
use Rattle.machine.specs.declared.act.Step.{Step}
use Rattle.machine.specs.State.{State, Whole}
use Rattle.session.specs.declared.notes.Notes.{Notes}
use Rattle.session.specs.Ranges.{MakesStepsThat}
use Rattle.session.specs.Steps.{reports_reclaim, reports_mark}

-- the phase of a processor after the change in progress
abbrev pub phase_after : ProcState → ProcState
phase_after Interrupted = Active
phase_after Initiating = Active
phase_after phase = phase

-- Processor p holds the lock for this change.
abbrev pub HoldsLock : ℕ → Change → State → Type 0
HoldsLock p change s = s.hardware.shootdown.lock ≡ Some (record { holder = p; change = change })

-- Processor p began this change while the lock was free. After the change, each processor will be in the phase in which
-- it was before.
pub record HasBegun (p : ℕ) (change : Change) (old new : State) : Type 0 where
  pub free : old.hardware.shootdown.lock ≡ None
  pub held : HoldsLock p change new
  pub phases : (q : ℕ) → phase_after (state_of new.hardware.shootdown q) ≡ state_of old.hardware.shootdown q

-- Steps that satisfy `what` are made, and with them processor p begins a change.
pub record BeginsChange {D : Type 0} (disk : Ghosts D) (old : Whole D) (before : Notes)
    (what : List Step → List Reply → Type 0) (p : ℕ) (change : Change) (new : Whole D) (after : Notes) : Type 0 where
  pub makes : MakesStepsThat disk old before what new after
  pub begins : HasBegun p change old.state new.state

-- No processor with a number below `next` is interrupted.
abbrev pub AreCalm : ℕ → State → Type 0
AreCalm next s = (q : ℕ) → q < next → state_of s.hardware.shootdown q ≢ Interrupted

-- The change that was in progress is over: the lock is free, and each processor is in its phase after the change.
pub record IsOver (old new : State) : Type 0 where
  pub lock : new.hardware.shootdown.lock ≡ None
  pub phases : (q : ℕ) → state_of new.hardware.shootdown q ≡ phase_after (state_of old.hardware.shootdown q)

-- whether this change was made
abbrev pub reports_made : Change → Reply → Bool
reports_made (Unmap pcid range) Unmapped = true
reports_made (Protect pcid range rights) Protected = true
reports_made (Reclaim owner) reply = reports_reclaim reply
reports_made (SetLength file length) Resized = true
reports_made Checkpoint reply = reports_mark reply
reports_made change reply = false
