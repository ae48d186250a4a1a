-- How a processor sets the length of a file, and the answer to this request.
use Rattle.std.specs.Prelude.{ℕ, ◌≡◌, ◌≢◌, ◌⊎◌, Bool, true, false, ⊤, List, [], ◌∷◌, ◌++◌}
use Rattle.page_entry.specs.declared.refusal.Refusal.TheVariants.{Busy, NoFrame}
use Rattle.machine.specs.declared.act.Act.TheVariants.{SetLength, Ack, Change, Resume, Flush}
use Rattle.machine.specs.declared.act.Reply.{Reply}
use Rattle.machine.specs.declared.act.Reply.TheVariants.{Begun, Unmapped, Protected, Resized, Reclaimed, Kept, Marked}
use Rattle.machine.specs.declared.act.Reply.TheVariants.{Acked, Resumed, Nothing, Refused}
use Rattle.machine.specs.declared.act.Step.{Step}
use Rattle.session.specs.Ends.{MakesRoom}
use Rattle.session.specs.Steps.{IsPaging}

-- whether a change was begun
abbrev pub reports_begun : Reply → Bool
reports_begun Begun = true
reports_begun _ = false

-- whether a step was refused
abbrev pub reports_refused : Reply → Bool
reports_refused (Refused why) = true
reports_refused _ = false

-- whether a change was made
abbrev pub reports_changed : Reply → Bool
reports_changed Unmapped = true
reports_changed Protected = true
reports_changed Resized = true
reports_changed Reclaimed = true
reports_changed Kept = true
reports_changed (Marked number) = true
reports_changed _ = false

-- the steps of a change by processor p: each of the other processors stalls before it, and resumes after it
abbrev pub change_steps : ℕ → List ℕ → List Step
change_steps p [] = record { p = p; act = Change } ∷ []
change_steps p (other ∷ others) =
    record { p = other; act = Ack } ∷ (change_steps p others ++ record { p = other; act = Resume } ∷ [])

-- the replies to these steps
abbrev pub change_replies : Reply → List ℕ → List Reply
change_replies answer [] = answer ∷ []
change_replies answer (other ∷ others) = Acked ∷ (change_replies answer others ++ Resumed ∷ [])

-- All these processors differ from p.
abbrev pub AreOthers : ℕ → List ℕ → Type 0
AreOthers p [] = ⊤
AreOthers p (other ∷ others) = (other ≢ p) × AreOthers p others

-- A change that processor p began is made, and `answer` is its reply. The interrupted processors stall before it, and
-- resume after it.
pub record AnswersChange (p : ℕ) (answer : Reply) (steps : List Step) (replies : List Reply) : Type 0 where
  pub made : reports_changed answer ≡ true
  pub others : List ℕ
  pub differ : AreOthers p others
  pub steps_are : steps ≡ change_steps p others
  pub replies_are : replies ≡ change_replies answer others

-- the step with which processor p begins to set the length of a file, and its write-out step
abbrev pub set_length_by : ℕ → ℕ → ℕ → Step
set_length_by p file to = record { p = p; act = SetLength file to }

abbrev pub flush_by : ℕ → Step
flush_by p = record { p = p; act = Flush }

-- whether an attempt is refused only for now: write-outs have to be done first, or too few frames are free
abbrev pub reports_later : Reply → Bool
reports_later (Refused Busy) = true
reports_later (Refused NoFrame) = true
reports_later _ = false

-- A step before the change of the length is begun: an attempt that is refused only for now, or a step that loads and
-- stores nothing.
abbrev pub IsTry : ℕ → ℕ → ℕ → Step → Reply → Type 0
IsTry p file to step reply =
    ((step ≡ set_length_by p file to) × (reports_later reply ≡ true)) ⊎ IsPaging p step reply

-- After steps that satisfy `IsTry`, the change of the length is begun and made. `answer` is the reply to the change.
abbrev pub ChangesLength : ℕ → ℕ → ℕ → Reply → List Step → List Reply → Type 0
ChangesLength p file to answer (step ∷ steps) (reply ∷ replies) =
    (IsTry p file to step reply × ChangesLength p file to answer steps replies)
    ⊎ ((step ≡ set_length_by p file to) × (reply ≡ Begun) × AnswersChange p answer steps replies)
ChangesLength p file to answer steps replies = ⊥

-- An attempt was busy, the next write-out step isn't made, and there is no further attempt. If no write-out step is
-- left, the answer is `Busy`. If the write-out step is refused, its refusal is the answer.
pub record EndsWaiting (p : ℕ) (answer : Reply) (steps : List Step) (replies : List Reply) : Type 0 where
  pub reply : Reply
  pub why : ((reply ≡ Nothing) × (answer ≡ Refused Busy)) ⊎ ((reply ≡ answer) × (reports_refused answer ≡ true))
  pub steps_are : steps ≡ flush_by p ∷ []
  pub replies_are : replies ≡ reply ∷ []

-- The steps after the last attempt, and the reason why there is no further one. The attempt is refused for good, or too
-- few frames are free and none becomes free, or it is busy. `reply` is the reply to the attempt, and there are `all`
-- pages.
abbrev pub IsLeft : ℕ → Reply → Reply → ℕ → List Step → List Reply → Type 0
IsLeft p answer reply all steps replies =
    ((reply ≡ answer) × (reports_begun answer ≡ false) × (reports_later answer ≡ false) × (steps ≡ []) × (replies ≡ []))
    ⊎ ((reply ≡ Refused NoFrame) × (answer ≡ Refused NoFrame) × MakesRoom p false all steps replies)
    ⊎ ((reply ≡ Refused Busy) × EndsWaiting p answer steps replies)

-- The change of the length isn't begun. The answer is the reply to the last attempt, or to the write-out step that this
-- attempt waits for.
abbrev pub RefusesLength : ℕ → ℕ → ℕ → Reply → ℕ → List Step → List Reply → Type 0
RefusesLength p file to answer all (step ∷ steps) (reply ∷ replies) =
    (IsTry p file to step reply × RefusesLength p file to answer all steps replies)
    ⊎ ((step ≡ set_length_by p file to) × IsLeft p answer reply all steps replies)
RefusesLength p file to answer all steps replies = ⊥

-- Processor p sets the length of a file, or fails to set it, and this is the answer.
abbrev pub AnswersLength : ℕ → ℕ → ℕ → Reply → ℕ → List Step → List Reply → Type 0
AnswersLength p file to answer all steps replies =
    ChangesLength p file to answer steps replies ⊎ RefusesLength p file to answer all steps replies
