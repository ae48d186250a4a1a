-- What is promised when a request is carried out, by a session or by any other code that makes requests. Contracts of
-- such code promise nothing else about its machine and its notes.
use Rattle.std.specs.Prelude.{ℕ, List, Option, Result, OnOk}
use Rattle.device.specs.declared.device.Device.{Ghosts}
use Rattle.machine.specs.declared.act.Reply.{Reply}
use Rattle.machine.specs.declared.act.Step.{Step}
use Rattle.machine.specs.State.{Whole}
use Rattle.session.specs.declared.notes.Notes.{Notes}
use Rattle.session.specs.Answers.{WritesAnswer}
use Rattle.session.specs.Asked.{IsDoneFor}
use Rattle.session.specs.Locks.{KeepsPhases, KeepsPhasesFor}
use Rattle.session.specs.Ranges.{MakesStepsThat}
use Rattle.session.specs.Requests.{Asked}

-- A request is carried out: steps that satisfy `what` are made, and the notes include them. The lock and the
-- processors' phases are unchanged afterwards.
pub record CarriesOut {D : Type 0} (disk : Ghosts D) (old : Whole D) (before : Notes)
    (what : List Step → List Reply → Type 0) (new : Whole D) (after : Notes) : Type 0 where
  pub makes : MakesStepsThat disk old before what new after
  pub phases : KeepsPhases old.state new.state

-- A request is carried out as far as possible, and nothing else is done. If `result` is `Ok`, the whole request was
-- carried out, and its answer was written as a line. Unless the request consists of steps, the lock and the processors'
-- phases are unchanged afterwards, even if the result is an error.
pub record CarriesOutFor {D T E : Type 0} (disk : Ghosts D) (old : Whole D) (before : Notes) (what : Asked)
    (result : Result T E) (written written' : Option (List ℕ)) (new : Whole D) (after : Notes) : Type 0 where
  pub does : MakesStepsThat disk old before (IsDoneFor what) new after
  pub answers : OnOk result (MakesStepsThat disk old before (WritesAnswer before what written written') new after)
  pub phases : KeepsPhasesFor what old.state new.state
