-- The effects of private functions that make a pager's steps.
use Rattle.std.specs.Prelude.{ℕ, ◌≡◌, ◌+◌, nat_lt, Bool, true, false, List, [], ◌∷◌, length}
use Rattle.deferred_disk.specs.Deferred.{Deferred}
use Rattle.journal.specs.declared.flushed.Flushed.{Flushed}
use Rattle.journal.specs.declared.flushed.Flushed.TheVariants as flushed
use Rattle.journal.specs.WriteOut.{WriteOut, has_committed}
use Rattle.pager.specs.State.{PagerState}
use Rattle.pager.specs.Calls.{after_commit}
use Rattle.pager.specs.Histories.{IsBegunCommit}
use Rattle.embedded.specs.Steps.{MakesStep, MakesSteps, Succeeds, WhileBusy, Without}
use Rattle.embedded.specs.declared.steps.Turn.{Turn}
use Rattle.embedded.specs.declared.steps.Turn.TheVariants.{Idle, Made, Failed, Broken}

-- the outcome of a step
abbrev pub HasTurned : PagerState Deferred → Turn → PagerState Deferred → Type 0
HasTurned old Idle new = (new ≡ old) × (old.write_outs.batches ≡ [])
HasTurned old (Made answer) new = Succeeds answer × MakesStep old answer new
HasTurned old Failed new = MakesStep old flushed.Device new
HasTurned old Broken new = (new ≡ old) × (old.write_outs.broken ≡ true)

-- The newest write-out has this mark, and isn't committed.
abbrev pub EndsAwaiting : ℕ → List WriteOut → Type 0
EndsAwaiting mark [] = ⊥
EndsAwaiting mark (w ∷ []) = (w.batch.mark ≡ mark) × (has_committed w ≡ false)
EndsAwaiting mark (w ∷ x ∷ newer) = EndsAwaiting mark (x ∷ newer)

-- Steps were made while a commit couldn't begin, and then it began. `some` is whether it has blocks to commit.
pub record BeginsCommit (old : PagerState Deferred) (mark : ℕ) (some : Bool) (new : PagerState Deferred) : Type 0 where
  pub waits : ℕ
  pub begins : PagerState Deferred
  pub earlier : MakesSteps WhileBusy old waits begins
  pub commit : IsBegunCommit begins
  pub mark_is : mark ≡ begins.marks + 1
  pub is_some : some ≡ nat_lt 0 (length begins.staged)
  pub value : new ≡ after_commit begins

-- Steps that didn't commit the mark were made, and then a step with this answer.
abbrev pub WritesUntil : ℕ → PagerState Deferred → Flushed → PagerState Deferred → Type 0
WritesUntil mark old answer new =
    (n : ℕ) × (last : PagerState Deferred) × MakesSteps (Without mark) old n last × MakesStep last answer new
