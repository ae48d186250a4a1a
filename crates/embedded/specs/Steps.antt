-- Steps of the write-outs that requests make, and commits that consist of such steps.
use Rattle.std.specs.Prelude.{ℕ, ◌≡◌, ◌≢◌, ◌⊎◌, ◌↔◌, ◌+◌, ◌<◌, ◌≤◌, ⊤, Bool, true, false, IsTrue}
use Rattle.std.specs.Prelude.{[], ◌∷◌, length, Some}
use Rattle.page_entry.specs.declared.refusal.Refusal.{Refusal}
use Rattle.page_entry.specs.declared.refusal.Refusal.TheVariants as refusals
use Rattle.device.specs.Did.{Did}
use Rattle.deferred_disk.specs.Deferred.{Deferred}
use Rattle.journal.specs.Work.{has_done}
use Rattle.journal.specs.declared.flushed.Flushed.{Flushed}
use Rattle.journal.specs.declared.flushed.Flushed.TheVariants.{Committed, Device, Broken}
use Rattle.journal.specs.WriteOuts.{is_busy, next_work, next_answer}
use Rattle.kept_blocks.specs.Blocks.{Blocks}
use Rattle.pager.specs.State.{PagerState}
use Rattle.pager.specs.Calls.{after_commit, after_step, commit_refusal, next_bytes}
use Rattle.pager.specs.Histories.{IsBegunCommit}
use Rattle.embedded.specs.Recorded.{deferred_disk}

-- A step of a pager that wasn't broken, with this answer. It agrees with what `step` ensures.
pub record MakesStep (old : PagerState Deferred) (answer : Flushed) (new : PagerState Deferred) : Type 0 where
  pub some : old.write_outs.batches ≢ []
  pub whole : old.write_outs.broken ≡ false
  pub a_block : length (next_bytes old) ≡ 4096
  pub answered : (answer ≡ next_answer old.write_outs) ⊎ (answer ≡ Device)
  pub did : Did deferred_disk old.device (next_work old.write_outs (next_bytes old)) (has_done answer) new.device
  pub value : new ≡ after_step old answer new.device

-- No device call failed in a step with this answer.
abbrev pub Succeeds : Flushed → Type 0
Succeeds Device = ⊥
Succeeds Broken = ⊥
Succeeds answer = ⊤

-- This many steps led from one pager to another, and none failed. `holds` is true of each step's pager before it and
-- its answer.
pub data MakesSteps (holds : PagerState Deferred → Flushed → Type 0) (start : PagerState Deferred)
    : ℕ → PagerState Deferred → Type 0 where
  NoStep : MakesSteps holds start 0 start
  ThenStep : (n : ℕ) (last new : PagerState Deferred) (answer : Flushed) → Succeeds answer → holds last answer
      → MakesStep last answer new → MakesSteps holds start n last → MakesSteps holds start (n + 1) new

-- A step that is made so that a commit can begin.
abbrev pub WhileBusy : PagerState Deferred → Flushed → Type 0
WhileBusy before answer = is_busy before.write_outs ≡ true

-- A step that doesn't commit this mark.
abbrev pub Without : ℕ → PagerState Deferred → Flushed → Type 0
Without mark before answer = answer ≢ Committed mark

abbrev pub AnyStep : PagerState Deferred → Flushed → Type 0
AnyStep before answer = ⊤

-- Steps led from the beginning of a commit of these blocks to the step that committed its mark. If there are no blocks,
-- no step was made.
abbrev pub IsWrittenOut : Blocks → (mark : ℕ) → (begun new : PagerState Deferred) → Type 0
IsWrittenOut [] mark begun new = new ≡ begun
IsWrittenOut (block ∷ blocks) mark begun new =
    (n : ℕ) × (last : PagerState Deferred) × MakesSteps (Without mark) begun n last
    × MakesStep last (Committed mark) new

-- A commit with this mark: steps were made while it couldn't begin, then it began, and it was written out.
pub record Commits (old : PagerState Deferred) (mark : ℕ) (new : PagerState Deferred) : Type 0 where
  pub waits : ℕ
  pub begins : PagerState Deferred
  pub earlier : MakesSteps WhileBusy old waits begins
  pub commit : IsBegunCommit begins
  pub mark_is : mark ≡ begins.marks + 1
  pub written : IsWrittenOut begins.staged mark (after_commit begins) new

-- A commit was refused with this refusal.
pub data RefusesCommit (old : PagerState Deferred) : Refusal → PagerState Deferred → Type 0 where
  -- It couldn't begin: a device call had failed earlier, or the numbers for marks are used up.
  NeverBegins : (waits : ℕ) (why : Refusal) (new : PagerState Deferred) → MakesSteps WhileBusy old waits new
      → commit_refusal new ≡ Some why → (why ≡ refusals.Busy → is_busy new.write_outs ≡ false)
      → RefusesCommit old why new
  -- A step failed that was made so that the commit could begin.
  FailsBefore : (waits : ℕ) (last new : PagerState Deferred) → MakesSteps WhileBusy old waits last
      → is_busy last.write_outs ≡ true → MakesStep last Device new → RefusesCommit old refusals.Device new
  -- A step failed after the commit began.
  FailsWithin : (waits : ℕ) (begins : PagerState Deferred) (n : ℕ) (last new : PagerState Deferred)
      → MakesSteps WhileBusy old waits begins → IsBegunCommit begins → begins.staged ≢ []
      → MakesSteps (Without (begins.marks + 1)) (after_commit begins) n last → MakesStep last Device new
      → RefusesCommit old refusals.Device new

-- At most `most` steps were made: exactly `most`, or all that were left. `left` is whether a step is left now.
pub record WritesOut (most : ℕ) (old : PagerState Deferred) (left : Bool) (new : PagerState Deferred) : Type 0 where
  pub n : ℕ
  pub few : n ≤ most
  pub steps : MakesSteps AnyStep old n new
  pub all : left ≡ true → n ≡ most
  pub is_left : IsTrue left ↔ (new.write_outs.batches ≢ [])

-- Steps were refused: one failed, or one had failed earlier.
pub data RefusesSteps (most : ℕ) (old : PagerState Deferred) : Refusal → PagerState Deferred → Type 0 where
  IsBroken : old.write_outs.broken ≡ true → RefusesSteps most old refusals.Broken old
  Fails : (n : ℕ) (last new : PagerState Deferred) → n < most → MakesSteps AnyStep old n last
      → MakesStep last Device new → RefusesSteps most old refusals.Device new
