-- Commits that follow each other at once, the steps that remain after them, and the number of their syncs.
use Rattle.std.specs.Prelude.{ℕ, ◌≡◌, ◌≢◌, ◌+◌, true, List, []}
use Rattle.volume_codec.specs.Layout.{GeometryValue}
use Rattle.journal.specs.declared.flushed.Flushed.{Flushed}
use Rattle.journal.specs.declared.flushed.Flushed.TheVariants.{Committed}
use Rattle.journal.specs.Work.{Work, Sync}
use Rattle.journal.specs.WriteOuts.{WriteOutsValue, none_of, has_uncommitted, next_work, next_answer, outs_after, begun}
use Rattle.journal.specs.LedTo.{MayBegin}

-- The number of batches that a step with this answer commits, and the number of syncs that a step with this work makes.
abbrev pub commits_by : Flushed → ℕ
commits_by (Committed mark) = 1
commits_by answer = 0

abbrev pub syncs_by : Work → ℕ
syncs_by Sync = 1
syncs_by work = 0

-- The write-outs after these numbers of commits and syncs, from none. No device call fails. A step is made only while a
-- batch isn't committed, so the next batch begins at once.
pub data HaveCommitted (g : GeometryValue) : WriteOutsValue → ℕ → ℕ → Type 0 where
  NoneYet : HaveCommitted g (none_of g) 0 0
  OneBegun : (outs : WriteOutsValue) (commits syncs mark : ℕ) (homes : List ℕ) → MayBegin outs mark homes
      → HaveCommitted g outs commits syncs → HaveCommitted g (begun outs mark homes) commits syncs
  OneStepped : (outs : WriteOutsValue) (commits syncs : ℕ) → has_uncommitted outs.batches ≡ true
      → HaveCommitted g outs commits syncs
      → HaveCommitted g (outs_after outs (next_answer outs)) (commits + commits_by (next_answer outs))
      (syncs + syncs_by (next_work outs []))

-- The write-outs after further steps, which made this number of syncs. No device call fails, and no batch begins.
pub data HaveGoneOn (outs : WriteOutsValue) : WriteOutsValue → ℕ → Type 0 where
  NotYet : HaveGoneOn outs outs 0
  OneMore : (mid : WriteOutsValue) (syncs : ℕ) → mid.batches ≢ [] → HaveGoneOn outs mid syncs
      → HaveGoneOn outs (outs_after mid (next_answer mid)) (syncs + syncs_by (next_work mid []))
