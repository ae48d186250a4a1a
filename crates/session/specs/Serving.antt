-- The steps for a line, and the answer to it.
use Rattle.std.specs.Prelude.{ℕ, List, Option, Result, OnOk}
use Rattle.machine.specs.declared.act.Reply.{Reply}
use Rattle.machine.specs.declared.act.Step.{Step}
use Rattle.session.specs.declared.notes.Notes.{Notes}
use Rattle.session.specs.Answers.{WritesAnswerOf}
use Rattle.session.specs.Asked.{IsServedFor}

-- All these steps were made for the line. If `result` is `Ok`, the line was answered by these steps, and the answer was
-- written.
pub record ServesLine {T E : Type 0} (before : Notes) (line : List ℕ) (result : Result T E) (old new : Option (List ℕ))
    (steps : List Step) (replies : List Reply) : Type 0 where
  pub served : IsServedFor line steps replies
  pub answered : OnOk result (WritesAnswerOf before line old new steps replies)
