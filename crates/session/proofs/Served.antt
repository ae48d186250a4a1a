-- What was done for a line, and what is answered to it: one list of steps.
use Rattle.std.proofs.Common.{◌≡◌, ◌⊎◌, inl, inr, ℕ, List, [], ◌∷◌, ◌++◌, length, Option, Some, Result, Ok, Err}
use Rattle.std.proofs.Common.{OnOk, is_ok, sym, subst, ◌∙◌, arith}
use Rattle.std.proofs.lemmas.List.{take_all}
use Rattle.device.specs.declared.device.Device.{Ghosts}
use Rattle.machine.specs.declared.act.Reply.{Reply}
use Rattle.machine.specs.declared.act.Shape.{Shape}
use Rattle.machine.specs.declared.act.Step.{Step}
use Rattle.machine.specs.Runs.{StepsTaken}
use Rattle.machine.specs.State.{State, Whole}
use Rattle.engine.specs.Engine.{HasStarted, HasRun}
use Rattle.session.specs.declared.notes.Notes.{Notes}
use Rattle.std.specs.Io.KnownBytes.{Appends}
use Rattle.session.specs.Answers.{AnswersRequest, AnswersLine, WritesAnswer, WritesAnswerOf}
use Rattle.session.specs.Asked.{IsDoneFor, IsServedFor}
use Rattle.session.specs.CarriedOut.{CarriesOut, CarriesOutFor}
use Rattle.session.specs.Locks.{AsksSteps, KeepsPhases, KeepsPhasesFor}
use Rattle.session.specs.Ranges.{MakesStepsThat}
use Rattle.session.specs.Requests.{Asked, asks_steps, asks_load, asks_store, asks_commit, asks_length, request_in}
use Rattle.session.specs.Serving.{ServesLine}
use Rattle.session.specs.inside.Made.{HasMade}
use Rattle.session.proofs.Commits.{answers_of_commit}
use Rattle.session.proofs.Stretches.{does_more}
use Rattle.session.proofs.Writing.{ok_after}

-- ---- what was answered was done

answers_do : (before : Notes) (what : Asked) (answer : List ℕ) (steps : List Step) (replies : List Reply)
    → AnswersRequest before what answer steps replies → IsDoneFor what steps replies
answers_do before (asks_steps wanted) answer steps replies it =
    (length wanted, it.0 ∙ sym (take_all (length wanted) wanted (omega arith)))
answers_do before (asks_load p va count) answer steps replies (all, bytes, reached, it, replied) =
    (all, bytes, reached, it)
answers_do before (asks_store p va bytes) answer steps replies (all, reached, it, replied) = (all, reached, it)
answers_do before (asks_commit p) answer steps replies (committed, it, replied) =
    answers_of_commit p before committed steps replies it
answers_do before (asks_length p file to) answer steps replies (all, reply, it, replied) = (all, reply, it)

-- a request was carried out, and then its answer was written
pub answered_for : {D T E F : Type 0} (disk : Ghosts D) (old new : Whole D) (before after : Notes) (wanted what : Asked)
    (did : List Step → List Reply → Type 0) (text : List ℕ) (written : Result T E) (result : Result T F)
    (a b : Option (List ℕ)) → wanted ≡ what
    → ((steps : List Step) (replies : List Reply) → did steps replies → AnswersRequest before what text steps replies)
    → (KeepsPhases old.state new.state → KeepsPhasesFor what old.state new.state) → is_ok result ≡ is_ok written
    → OnOk written (Appends a b (text ++ 10 ∷ [])) → CarriesOut disk old before did new after
    → CarriesOutFor disk old before wanted result a b new after
answered_for disk old new before after wanted what did text written result a b is answers keeps same wrote done =
    subst (λ w. CarriesOutFor disk old before w result a b new after) (sym is) (record {
      does = does_more disk old new before after did (IsDoneFor what) (λ steps replies it.
          answers_do before what text steps replies (answers steps replies it)) done.makes;
      answers = ok_after written result same (λ appends. does_more disk old new before after did
          (WritesAnswer before what a b) (λ steps replies it. (text, answers steps replies it, appends)) done.makes)
          wrote;
      phases = keeps done.phases;
    })

answers_serve : (before : Notes) (line answer : List ℕ) (steps : List Step) (replies : List Reply)
    → AnswersLine before line answer steps replies → IsServedFor line steps replies
answers_serve before line answer steps replies (inl (
  none,
  (
    cause,
    of,
    (detail, one-line, text, no-steps, no-replies),
  ),
)) =
    inl (no-steps, no-replies)
answers_serve before line answer steps replies (inr (what, is, it)) =
    inr (what, is, answers_do before what answer steps replies it)

-- ---- one list of steps

pub line_serves : {D T E : Type 0} (disk : Ghosts D) (old new : Whole D) (before after : Notes) (line : List ℕ)
    (result : Result T E) (a b : Option (List ℕ)) → MakesStepsThat disk old before (IsServedFor line) new after
    → OnOk result (MakesStepsThat disk old before (WritesAnswerOf before line a b) new after)
    → MakesStepsThat disk old before (ServesLine before line result a b) new after
line_serves disk old new before after line (Ok done) a b served answered = record {
  steps = answered.steps;
  replies = answered.replies;
  makes = answered.makes;
  holds = record {
    served = answers_serve before line answered.holds.0 answered.steps answered.replies answered.holds.1;
    answered = answered.holds;
  };
}
line_serves disk old new before after line (Err why) a b served answered = record {
  steps = served.steps;
  replies = served.replies;
  makes = served.makes;
  holds = record { served = served.holds; answered = tt };
}

pub line_answers : {D T E : Type 0} (disk : Ghosts D) (old new : Whole D) (before after : Notes) (line : List ℕ)
    (result : Result T E) (a b : Option (List ℕ))
    → MakesStepsThat disk old before (ServesLine before line result a b) new after
    → OnOk result (MakesStepsThat disk old before (WritesAnswerOf before line a b) new after)
line_answers disk old new before after line (Ok done) a b it =
    record { steps = it.steps; replies = it.replies; makes = it.makes; holds = it.holds.answered }
line_answers disk old new before after line (Err why) a b it = tt

-- all steps that were made are a run, and those that were answered answer
pub one_list : {D T E : Type 0} (disk : Ghosts D)
    → ((before : D) (shape : Shape) (start last : Whole D) (steps : List Step) (replies : List Reply)
    → HasStarted disk before shape start → StepsTaken disk start steps replies last
    → HasRun disk before shape steps replies last.device)
    → (old new : Whole D) (before after : Notes) (result : Result T E) (answers : List Step → List Reply → Type 0)
    → HasMade disk old before new after
    → OnOk result (MakesStepsThat disk old before answers new after) → MakesStepsThat disk old before
    (λ steps replies. ((first : D) (shape : Shape) → HasStarted disk first shape old
    → HasRun disk first shape steps replies new.device) × OnOk result (answers steps replies)) new after
one_list disk runs old new before after (Ok done) answers made it = record {
  steps = it.steps;
  replies = it.replies;
  makes = it.makes;
  holds = (λ first shape started. runs first shape old new it.steps it.replies started it.makes.taken, it.holds);
}
one_list disk runs old new before after (Err why) answers made it = record {
  steps = made.steps;
  replies = made.replies;
  makes = made.makes;
  holds = (λ first shape started. runs first shape old new made.steps made.replies started made.makes.taken, tt);
}

-- ---- the lock and the phases

pub line_keeps : (line : List ℕ) (what : Asked) (old new : State) → request_in line ≡ Some what
    → KeepsPhasesFor what old new → AsksSteps line ⊎ KeepsPhases old new
line_keeps line (asks_steps steps) old new is kept = inl (steps, is)
line_keeps line (asks_load p va count) old new is kept = inr kept
line_keeps line (asks_store p va bytes) old new is kept = inr kept
line_keeps line (asks_commit p) old new is kept = inr kept
line_keeps line (asks_length p file to) old new is kept = inr kept
