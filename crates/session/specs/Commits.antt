-- How a processor commits, step by step, and the answer to a commit.
use Rattle.std.specs.Prelude.{ℕ, ◌≡◌, ◌≢◌, ◌⊎◌, Bool, true, false, ⊤, List, [], ◌∷◌, ◌++◌, Result, Ok, Err}
use Rattle.page_entry.specs.declared.refusal.Refusal.TheVariants.{Busy}
use Rattle.machine.specs.declared.act.Act.TheVariants.{Msync}
use Rattle.machine.specs.declared.act.Reply.{Reply}
use Rattle.machine.specs.declared.act.Reply.TheVariants.{Begun, Marked, Committed, Nothing, Refused}
use Rattle.machine.specs.declared.act.Step.{Step}
use Rattle.session.specs.declared.notes.Notes.{Notes}
use Rattle.session.specs.Lengths.{flush_by, reports_refused, AnswersChange, EndsWaiting}
use Rattle.session.specs.Notes.{noted_all}
use Rattle.session.specs.Steps.{reports_flushed}

-- the step with which processor p begins a commit of all stores
abbrev pub msync_by : ℕ → Step
msync_by p = record { p = p; act = Msync 0 0 (record { 0 = 4 }) }

-- whether a step wasn't made: it was refused, or there was nothing to do
abbrev pub reports_unmade : Reply → Bool
reports_unmade Nothing = true
reports_unmade reply = reports_refused reply

-- Each attempt to begin a mark is busy, and is followed by a write-out step that is made.
abbrev pub AreWaits : ℕ → List Step → List Reply → Type 0
AreWaits p [] [] = ⊤
AreWaits p (attempt ∷ step ∷ steps) (reply ∷ replied ∷ replies) =
    (attempt ≡ msync_by p) × (reply ≡ Refused Busy) × (step ≡ flush_by p) × (reports_flushed replied ≡ true)
    × AreWaits p steps replies
AreWaits p steps replies = ⊥

-- Processor p begins a mark. If write-outs have to be done first, it makes write-out steps before.
pub record BeginsMark (p : ℕ) (steps : List Step) (replies : List Reply) : Type 0 where
  pub waits : List Step
  pub waited : List Reply
  pub busy : AreWaits p waits waited
  pub steps_are : steps ≡ waits ++ msync_by p ∷ []
  pub replies_are : replies ≡ waited ++ Begun ∷ []

-- The last attempt to begin a mark. Either it is refused for another reason than `Busy`, or it is busy and no further
-- attempt is possible (`EndsWaiting`).
abbrev pub IsLastAttempt : ℕ → Reply → List Step → List Reply → Type 0
IsLastAttempt p answer (step ∷ steps) (reply ∷ replies) =
    (step ≡ msync_by p)
    × (((reply ≡ answer) × (reports_refused answer ≡ true) × (answer ≢ Refused Busy) × (steps ≡ []) × (replies ≡ []))
    ⊎ ((reply ≡ Refused Busy) × EndsWaiting p answer steps replies))
IsLastAttempt p answer steps replies = ⊥

-- Processor p is refused a mark, and this refusal is the answer.
pub record RefusesMark (p : ℕ) (answer : Reply) (steps : List Step) (replies : List Reply) : Type 0 where
  pub waits : List Step
  pub waited : List Reply
  pub busy : AreWaits p waits waited
  pub last : List Step
  pub replied : List Reply
  pub refused : IsLastAttempt p answer last replied
  pub steps_are : steps ≡ waits ++ last
  pub replies_are : replies ≡ waited ++ replied

-- A write-out step was made, and it doesn't commit this mark.
abbrev pub IsOfOther : ℕ → Reply → Type 0
IsOfOther mark reply = (reports_flushed reply ≡ true) × (reply ≢ Committed mark)

-- These are write-out steps of processor p. All but the last are made, and none of these commits the mark. `answer` is
-- the reply to the last one.
abbrev pub WritesUntil : ℕ → ℕ → Reply → List Step → List Reply → Type 0
WritesUntil p mark answer (step ∷ steps) (reply ∷ replies) =
    (step ≡ flush_by p) × (((reply ≡ answer) × (steps ≡ []) × (replies ≡ []))
    ⊎ (IsOfOther mark reply × WritesUntil p mark answer steps replies))
WritesUntil p mark answer steps replies = ⊥

-- Processor p begins a mark and makes it. The steps after that satisfy `what`, with the notes from before the mark was
-- made.
pub record MarksAnd (p : ℕ) (before : Notes) (mark : ℕ) (what : Notes → List Step → List Reply → Type 0)
    (steps : List Step) (replies : List Reply) : Type 0 where
  pub beginning : List Step
  pub begun : List Reply
  pub begins : BeginsMark p beginning begun
  pub marking : List Step
  pub marked : List Reply
  pub makes : AnswersChange p (Marked mark) marking marked
  pub writing : List Step
  pub written : List Reply
  pub writes : what (noted_all before begun) writing written
  pub steps_are : steps ≡ beginning ++ (marking ++ writing)
  pub replies_are : replies ≡ begun ++ (marked ++ written)

-- The steps make the mark durable. If every store and new length before it already belongs to a mark, no step is
-- needed. Otherwise these are write-out steps, and the last one commits the mark.
abbrev pub IsWritten : ℕ → ℕ → Notes → List Step → List Reply → Type 0
IsWritten p mark noted steps replies =
    ((noted.has_unmarked ≡ false) × (steps ≡ []) × (replies ≡ []))
    ⊎ ((noted.has_unmarked ≡ true) × WritesUntil p mark (Committed mark) steps replies)

-- Processor p begins a mark, makes it, and makes it durable.
abbrev pub CommitsMark : ℕ → Notes → ℕ → List Step → List Reply → Type 0
CommitsMark p before mark steps replies = MarksAnd p before mark (IsWritten p mark) steps replies

-- A write-out step that is needed for the mark isn't made, and its reply is the answer.
abbrev pub IsLeftUnwritten : ℕ → ℕ → Reply → Notes → List Step → List Reply → Type 0
IsLeftUnwritten p mark answer noted steps replies =
    (noted.has_unmarked ≡ true) × WritesUntil p mark answer steps replies × (reports_unmade answer ≡ true)

-- A step stops the commit, and its reply is the answer. It is an attempt to begin the mark, a write-out step that such
-- an attempt waits for, or a write-out step for the mark. The change that makes the mark is never refused.
abbrev pub StopsCommit : ℕ → Notes → Reply → List Step → List Reply → Type 0
StopsCommit p before answer steps replies =
    RefusesMark p answer steps replies
    ⊎ ((mark : ℕ) × MarksAnd p before mark (IsLeftUnwritten p mark answer) steps replies)

-- Processor p commits, with this result: a durable mark, or the reply to the step that stopped the commit, which wasn't
-- made.
abbrev pub AnswersCommit : ℕ → Notes → Result ℕ Reply → List Step → List Reply → Type 0
AnswersCommit p before (Ok mark) steps replies = CommitsMark p before mark steps replies
AnswersCommit p before (Err answer) steps replies =
    StopsCommit p before answer steps replies × (reports_unmade answer ≡ true)
