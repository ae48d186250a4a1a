-- Attempts to take pages out of memory, one after the other.
use Rattle.std.specs.Prelude.{ℕ, ◌≡◌, ◌⊎◌, ◌+◌, ◌≤◌, Bool, true, false, List, [], ◌∷◌}
use Rattle.page_entry.specs.declared.numbers.FilePage.{FilePage}
use Rattle.machine.specs.declared.act.Act.TheVariants.{Reclaim}
use Rattle.machine.specs.declared.act.Reply.{Reply}
use Rattle.machine.specs.declared.act.Step.{Step}
use Rattle.session.specs.Ends.{AreFruitless, MakesRoom, is_written_in, reports_reclaimed, tried_in}
use Rattle.session.specs.Lengths.{AnswersChange, reports_begun}
use Rattle.session.specs.Steps.{reports_reclaim}

-- the step with which processor p begins to take a page out of memory
abbrev pub reclaim_by : ℕ → FilePage → Step
reclaim_by p page = record { p = p; act = Reclaim page.file page.page }

-- A page is tried, and `left` is whether it leaves memory.
abbrev pub TriesPage : ℕ → FilePage → Bool → List Step → List Reply → Type 0
TriesPage p page left (step ∷ steps) (reply ∷ replies) =
    (step ≡ reclaim_by p page)
    × (((reports_begun reply ≡ false) × (left ≡ false) × (steps ≡ []) × (replies ≡ []))
    ⊎ ((answer : Reply) × (reports_reclaim answer ≡ true) × (left ≡ reports_reclaimed answer)
    × AnswersChange p answer steps replies))
TriesPage p page left steps replies = ⊥

-- At least `count` pages are tried, and none leaves memory. No write-out step is requested.
pub record TriesInVain (p count : ℕ) (steps : List Step) (replies : List Reply) : Type 0 where
  pub vain : AreFruitless p steps replies
  pub tried : (before : ℕ) → before + count ≤ tried_in before steps replies
  pub written : (before : Bool) → is_written_in before steps replies ≡ before

-- A page leaves memory (`true`), or at least `count` pages are tried in vain (`false`).
abbrev pub Tries : ℕ → Bool → ℕ → List Step → List Reply → Type 0
Tries p true count steps replies = MakesRoom p true count steps replies
Tries p false count steps replies = TriesInVain p count steps replies

-- The steps free no frame. If `some` is false, none of them is a write-out step that is made.
pub record IsWriting (p : ℕ) (some : Bool) (steps : List Step) (replies : List Reply) : Type 0 where
  pub vain : AreFruitless p steps replies
  pub tried : some ≡ false → (before : ℕ) → before ≤ tried_in before steps replies

-- The same, and the last write-out step that is requested isn't made.
pub record WritesHome (p : ℕ) (some : Bool) (steps : List Step) (replies : List Reply) : Type 0 where
  pub writing : IsWriting p some steps replies
  pub written : (before : Bool) → is_written_in before steps replies ≡ true

-- The steps free no frame, and the last write-out step that is requested isn't made. If the number of tried pages
-- (`tried_in`) was at least `all` before these steps, it also is afterwards.
pub record EndsInVain (p all : ℕ) (steps : List Step) (replies : List Reply) : Type 0 where
  pub vain : AreFruitless p steps replies
  pub tried : (before : ℕ) → all ≤ before → all ≤ tried_in before steps replies
  pub written : (before : Bool) → is_written_in before steps replies ≡ true

abbrev pub MakesRoomLater : ℕ → Bool → ℕ → List Step → List Reply → Type 0
MakesRoomLater p true all steps replies = MakesRoom p true all steps replies
MakesRoomLater p false all steps replies = EndsInVain p all steps replies
