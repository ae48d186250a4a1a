-- Steps that were made, and attempts to begin the change of a length.
use Rattle.std.specs.Prelude.{ℕ, ◌≡◌, ◌≢◌, ◌⊎◌, true, false, List, [], ◌∷◌}
use Rattle.device.specs.declared.device.Device.{Ghosts}
use Rattle.page_entry.specs.declared.refusal.Refusal.TheVariants.{NoFrame}
use Rattle.machine.specs.declared.act.Reply.{Reply}
use Rattle.machine.specs.declared.act.Reply.TheVariants.{Begun, Refused}
use Rattle.machine.specs.declared.act.Step.{Step}
use Rattle.machine.specs.State.{Whole}
use Rattle.session.specs.declared.notes.Notes.{Notes}
use Rattle.session.specs.Ends.{MakesRoom}
use Rattle.session.specs.Lengths.{IsTry, flush_by, set_length_by}
use Rattle.session.specs.Steps.{Makes, AreEach, reports_flushed}

-- Some steps lead from the machine `old` to the machine `new`.
pub record HasMade {D : Type 0} (disk : Ghosts D) (old : Whole D) (before : Notes) (new : Whole D)
    (after : Notes) : Type 0 where
  pub steps : List Step
  pub replies : List Reply
  pub makes : Makes disk old before steps replies new after

-- The write-out step that a busy attempt waits for is made.
pub record Waits (p : ℕ) (steps : List Step) (replies : List Reply) : Type 0 where
  pub reply : Reply
  pub made : reports_flushed reply ≡ true
  pub steps_are : steps ≡ flush_by p ∷ []
  pub replies_are : replies ≡ reply ∷ []

-- All these steps satisfy `IsTry`.
abbrev pub AreTries : ℕ → ℕ → ℕ → List Step → List Reply → Type 0
AreTries p file to = AreEach (IsTry p file to)

-- The last of these steps begins the change of the length. The others satisfy `IsTry`.
abbrev pub BeginsLength : ℕ → ℕ → ℕ → List Step → List Reply → Type 0
BeginsLength p file to (step ∷ steps) (reply ∷ replies) =
    (IsTry p file to step reply × BeginsLength p file to steps replies)
    ⊎ ((step ≡ set_length_by p file to) × (reply ≡ Begun) × (steps ≡ []) × (replies ≡ []))
BeginsLength p file to steps replies = ⊥

-- An attempt to begin the change of a length has this reply. The steps before it satisfy `IsTry`. If too few frames
-- were free, no frame becomes free after it.
abbrev pub AttemptsLength : ℕ → ℕ → ℕ → Reply → ℕ → List Step → List Reply → Type 0
AttemptsLength p file to answer all (step ∷ steps) (reply ∷ replies) =
    (IsTry p file to step reply × AttemptsLength p file to answer all steps replies)
    ⊎ ((step ≡ set_length_by p file to) × (reply ≡ answer)
    × (((answer ≢ Refused NoFrame) × (steps ≡ []) × (replies ≡ []))
    ⊎ ((answer ≡ Refused NoFrame) × MakesRoom p false all steps replies)))
AttemptsLength p file to answer all steps replies = ⊥
