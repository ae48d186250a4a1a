-- Facts that hold of every store.
use Rattle.std.specs.Prelude.{⊤, ℕ, ◌<◌, ◌≤◌, Option, Some, None}
use Rattle.log_codec.specs.Log.{LogValue, first_log_home}
use Rattle.log_codec.specs.Chain.{IsLogHome}
use Rattle.log_commits.specs.Tail.{TailValue}
use Rattle.log_home.specs.declared.index.Newest.{Newest}
use Rattle.log_home.specs.Index.{find_in}
use Rattle.log_commits.specs.declared.behind.OldCommits.{OldCommits}
use Rattle.log_store.specs.declared.stage.HomeStage.{HomeStage}
use Rattle.log_store.specs.declared.stage.HomeStage.TheVariants.{Resting}
use Rattle.log_store.specs.Store.{StoreValue}

-- If the block has a newest record, the record is in a block of the log, and the block is a home block.
abbrev pub IsNoted : LogValue → ℕ → Option Newest → Type 0
IsNoted g b None = ⊤
IsNoted g b (Some newest) = (4 ≤ newest.block) × (newest.block < first_log_home g.ring) × IsLogHome g b

-- These are oldest commits of the log.
abbrev pub IsOfLog : TailValue → OldCommits → Type 0
IsOfLog t oldest = (oldest.blocks ≤ t.used) × (t.start.number ≤ oldest.below) × (oldest.below ≤ t.number)

-- If commits are being written home, they are oldest commits of the log.
abbrev pub AreOfLog : TailValue → HomeStage → OldCommits → Type 0
AreOfLog t Resting oldest = ⊤
AreOfLog t stage oldest = IsOfLog t oldest

-- Records lie in the log. The number of its next commit is not below that of its first. No block or commit is out of
-- range, so that steps and reads are not refused for that.
pub record IsStore (s : StoreValue) : Type 0 where
  pub noted : (b : ℕ) → IsNoted s.tail.log b (find_in s.entries b)
  pub started : s.tail.start.number ≤ s.tail.number
  pub work : AreOfLog s.tail s.stage s.work.oldest
