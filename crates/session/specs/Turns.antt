-- How pages are taken out of memory: each in its turn, with a change that follows at once.
use Rattle.std.specs.Prelude.{ℕ, ◌≡◌, true, ⊤, List, [], ◌∷◌, ◌++◌}
use Rattle.page_entry.specs.declared.numbers.FilePage.{FilePage}
use Rattle.machine.specs.declared.act.Act.{Act}
use Rattle.machine.specs.declared.act.Act.TheVariants.{Reclaim}
use Rattle.machine.specs.declared.act.Reply.{Reply}
use Rattle.machine.specs.declared.act.Reply.TheVariants.{Begun}
use Rattle.machine.specs.declared.act.Step.{Step}
use Rattle.session.specs.declared.files.FileLine.{FileLine}
use Rattle.session.specs.declared.files.Files.{Files}
use Rattle.session.specs.Files.{page_after, round_of}
use Rattle.session.specs.Lengths.{AnswersChange}
use Rattle.session.specs.Steps.{reports_reclaim}

-- The first of these steps are a change by processor p, by which a page leaves memory or is kept there.
pub record BeginsByReclaim (p : ℕ) (steps : List Step) (replies : List Reply) : Type 0 where
  pub answer : Reply
  pub reclaims : reports_reclaim answer ≡ true
  pub changing : List Step
  pub changed : List Reply
  pub change : AnswersChange p answer changing changed
  pub later : List Step
  pub more : List Reply
  pub steps_are : steps ≡ changing ++ later
  pub replies_are : replies ≡ changed ++ more

-- An attempt to take a page out of memory is for the page whose turn it is. If its change is begun, the change is made
-- next.
abbrev pub IsInTurn : FilePage → ℕ → Act → Reply → List Step → List Reply → Type 0
IsInTurn turn p (Reclaim file page) reply steps replies =
    (turn ≡ record { file = file; page = page }) × (reply ≡ Begun → BeginsByReclaim p steps replies)
IsInTurn turn p act reply steps replies = ⊤

-- the page whose turn it is after a step
abbrev pub turn_after : {A : Type 0} → List (FileLine A) → FilePage → Act → FilePage
turn_after lines turn (Reclaim file page) = page_after lines turn
turn_after lines turn act = turn

-- All attempts of these steps to take a page out of memory are in turn, beginning with the page `turn`. After the steps
-- it is the turn of the page `last`.
abbrev pub TakesTurns : {A : Type 0} → List (FileLine A) → FilePage → List Step → List Reply → FilePage → Type 0
TakesTurns lines turn [] [] last = last ≡ turn
TakesTurns lines turn (step ∷ steps) (reply ∷ replies) last =
    IsInTurn turn step.p step.act reply steps replies
    × TakesTurns lines (turn_after lines turn step.act) steps replies last
TakesTurns lines turn steps replies last = ⊥

-- The steps satisfy `what`, with the number of pages in a round. They take pages out of memory in turn. The turn moves
-- from `old.next` to `new.next`, and the list of files is unchanged.
pub record InTurn {A : Type 0} (old : Files A) (what : ℕ → List Step → List Reply → Type 0) (new : Files A)
    (steps : List Step) (replies : List Reply) : Type 0 where
  pub does : what (round_of old.lines.items) steps replies
  pub lines : new.lines.items ≡ old.lines.items
  pub turns : TakesTurns old.lines.items old.next steps replies new.next
