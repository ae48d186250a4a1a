-- Rounds of steps. A round begins with its first step and ends with the step that moves the start.
use Rattle.std.specs.Prelude.{⊤, ◌≡◌, ℕ, ◌+◌, ◌-◌, length}
use Rattle.log_commits.specs.Tail.{TailValue}
use Rattle.log_commits.specs.declared.behind.OldCommits.{OldCommits}
use Rattle.log_home.specs.Work.{HomeWorkValue}
use Rattle.log_store.specs.declared.stage.HomeStage.{HomeStage}
use Rattle.log_store.specs.declared.stage.HomeStage.TheVariants.{Resting, Copying, Written, Sure}
use Rattle.log_store.specs.Store.{StoreValue}

-- No round is in progress.
abbrev pub IsResting : StoreValue → Type 0
IsResting s = s.stage ≡ Resting

-- A number that each step decreases, until the start moves. A round begins with `homes` home blocks to look at.
abbrev pub round_left_by : ℕ → HomeWorkValue → HomeStage → ℕ
round_left_by homes w Resting = homes + 4
round_left_by homes w Copying = 3 + ((length w.homes - w.done) + (w.done - length w.homes))
round_left_by homes w Written = 2
round_left_by homes w Sure = 1

abbrev pub round_left : StoreValue → ℕ
round_left s = round_left_by (length s.entries) s.work s.stage

-- If a round is in progress, it writes all commits of the log home.
abbrev pub IsOfAllBy : TailValue → OldCommits → HomeStage → Type 0
IsOfAllBy t oldest Resting = ⊤
IsOfAllBy t oldest stage = oldest.blocks ≡ t.used

abbrev pub IsOfAll : StoreValue → Type 0
IsOfAll s = IsOfAllBy s.tail s.work.oldest s.stage
