-- What a session has noted is noted of the steps since its start.
use Rattle.std.proofs.Common.{ℕ, ◌≡◌, List, [], ◌∷◌, ◌++◌, subst}
use Rattle.device.specs.declared.device.Device.{Ghosts}
use Rattle.machine.specs.declared.act.Reply.{Reply}
use Rattle.machine.specs.declared.act.Shape.{Shape}
use Rattle.machine.specs.declared.act.Step.{Step}
use Rattle.machine.specs.State.{Whole}
use Rattle.engine.specs.Engine.{HasStarted}
use Rattle.session.specs.declared.notes.Notes.{Notes}
use Rattle.session.specs.CarriedOut.{CarriesOut}
use Rattle.session.specs.Ranges.{MakesStepsThat}
use Rattle.session.specs.Sessions.{SessionState, IsServing, no_notes}
use Rattle.session.specs.Steps.{Makes}
use Rattle.session.specs.Turns.{InTurn}
use Rattle.session.proofs.Stretches.{makes_none, makes_then}

-- before the first step
pub served_none : {D : Type 0} (disk : Ghosts D) (before : D) (shape : Shape) (start : Whole D)
    → HasStarted disk before shape start → IsServing disk start no_notes
served_none disk before shape start started = (
  start,
  [],
  [],
  record { before = before; shape = shape; started = started; makes = makes_none disk start no_notes },
)

-- after one more
pub served_more : {D : Type 0} (disk : Ghosts D) (old new : Whole D) (before after : Notes) (step : Step)
    (reply : Reply) → IsServing disk old before → Makes disk old before (step ∷ []) (reply ∷ []) new after
    → IsServing disk new after
served_more disk old new before after step reply (start, steps, replies, it) makes = (
  start,
  steps ++ step ∷ [],
  replies ++ reply ∷ [],
  record {
    before = it.before;
    shape = it.shape;
    started = it.started;
    makes = makes_then disk start old new no_notes before after steps replies (step ∷ []) (reply ∷ []) it.makes makes;
  },
)

-- after any more
pub served_does : {D : Type 0} (disk : Ghosts D) (old new : Whole D) (before after : Notes)
    (what : List Step → List Reply → Type 0) → IsServing disk old before → MakesStepsThat disk old before what new after
    → IsServing disk new after
served_does disk old new before after what (start, steps, replies, it) more = (
  start,
  steps ++ more.steps,
  replies ++ more.replies,
  record {
    before = it.before;
    shape = it.shape;
    started = it.started;
    makes =
        makes_then disk start old new no_notes before after steps replies more.steps more.replies it.makes more.makes;
  },
)

-- what is carried out of the requests that a session opens is carried out of the session
pub carried_from : {D A : Type 0} (disk : Ghosts D) {inside seen : SessionState D A}
    (what : ℕ → List Step → List Reply → Type 0) (new : SessionState D A) → inside ≡ seen
    → CarriesOut disk inside.machine inside.notes (InTurn inside.files what new.files) new.machine new.notes
    → CarriesOut disk seen.machine seen.notes (InTurn seen.files what new.files) new.machine new.notes
carried_from {D} {A} disk what new is carried =
    subst (λ (s : SessionState D A). CarriesOut disk s.machine s.notes (InTurn s.files what new.files)
    new.machine new.notes) is carried
