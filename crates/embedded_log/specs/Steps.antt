-- Steps that write commits home, and commits.
use Rattle.std.specs.Prelude.{ℕ, ◌≡◌, ◌≢◌, ◌↔◌, ◌+◌, ◌<◌, ◌≤◌, ⊤, Bool, true, false, IsTrue, [], Some, None}
use Rattle.page_entry.specs.declared.refusal.Refusal.{Refusal}
use Rattle.page_entry.specs.declared.refusal.Refusal.TheVariants as refusals
use Rattle.deferred_disk.specs.Deferred.{Deferred}
use Rattle.log_store.specs.declared.stage.HomeStage.TheVariants.{Resting}
use Rattle.log_store.specs.declared.fault.Progress.{Progress}
use Rattle.log_store.specs.declared.fault.Progress.TheVariants as steps
use Rattle.log_files.specs.State.{LogFilesState}
use Rattle.log_files.specs.Calls.{has_blocks_for, log_commit_refusal, IsLogFilesCommit, IsFailedLogCommit}
use Rattle.log_files.specs.Calls.{KeepsLogFiles, IsLogFilesStep, IsFailedLogStep, RefusesFilesStep, RefusesFilesCommit}
use Rattle.embedded.specs.declared.reading.Unread.{Unread}
use Rattle.embedded.specs.declared.reading.Unread.TheVariants.{Wanted, Refused}
use Rattle.embedded.specs.Recorded.{deferred_disk}
use Rattle.embedded_log.specs.Needs.{lacked_by_step, lacked_by_commit}

-- Each commit is written home, and no step is in progress.
abbrev pub IsAllHome : LogFilesState Deferred → Type 0
IsAllHome s = (s.pager.store.tail.used ≡ 0) × (s.pager.store.stage ≡ Resting)

-- whether the log has room for a commit of the staged blocks
abbrev pub has_log_room : LogFilesState Deferred → Bool
has_log_room s = has_blocks_for s.pager.store.tail s.pager.staged

-- This many steps led from one state to another. No step was refused, each had something to do, and the block that it
-- needs was known. `holds` is true of the state before each step.
pub data MakesLogSteps (holds : LogFilesState Deferred → Type 0) (start : LogFilesState Deferred)
    : ℕ → LogFilesState Deferred → Type 0 where
  NoLogStep : MakesLogSteps holds start 0 start
  ThenLogStep : (n : ℕ) (last new : LogFilesState Deferred) (progress : Progress) → holds last
      → lacked_by_step last ≡ None → progress ≢ steps.Idle → IsLogFilesStep deferred_disk last progress new
      → MakesLogSteps holds start n last → MakesLogSteps holds start (n + 1) new

-- A step that is made so that a commit has room.
abbrev pub WhileFull : LogFilesState Deferred → Type 0
WhileFull last = has_log_room last ≡ false

abbrev pub AnyLogStep : LogFilesState Deferred → Type 0
AnyLogStep last = ⊤

-- The next step is refused with this refusal.
pub record RefusesNextStep (last : LogFilesState Deferred) (why : Refusal) (new : LogFilesState Deferred)
    : Type 0 where
  pub known : lacked_by_step last ≡ None
  pub reason : RefusesFilesStep last why
  pub kept : why ≢ refusals.Device → new ≡ last
  pub failed : why ≡ refusals.Device → IsFailedLogStep deferred_disk last new

-- The next step isn't made: it needs a block that isn't known, or it is refused.
abbrev pub StopsAtStep : LogFilesState Deferred → Unread → LogFilesState Deferred → Type 0
StopsAtStep last (Wanted block) new = (new ≡ last) × (lacked_by_step last ≡ Some block)
StopsAtStep last (Refused why) new = RefusesNextStep last why new

-- The staged blocks are committed with this mark.
pub record CommitsPut (last : LogFilesState Deferred) (mark : ℕ) (new : LogFilesState Deferred) : Type 0 where
  pub known : lacked_by_commit last ≡ None
  pub admitted : log_commit_refusal last ≡ None
  pub mark_is : mark ≡ last.marks + 1
  pub nothing : last.pager.staged ≡ [] → new ≡ record last { marks = last.marks + 1 }
  pub some : last.pager.staged ≢ [] → IsLogFilesCommit deferred_disk last new

-- The commit of the staged blocks is refused with this refusal. The blocks that it needs are known.
pub record RefusesPutCommit (last : LogFilesState Deferred) (why : Refusal) (new : LogFilesState Deferred)
    : Type 0 where
  pub known : lacked_by_commit last ≡ None
  pub reason : RefusesFilesCommit last why
  pub unchanged : log_commit_refusal last ≢ None → new ≡ last
  pub kept : why ≢ refusals.Device → KeepsLogFiles last new × (new.pager.device ≡ last.pager.device)
  pub failed : why ≡ refusals.Device → IsFailedLogCommit deferred_disk last new

-- The commit isn't made: it needs a block that isn't known, or it is refused.
abbrev pub StopsAtCommit : LogFilesState Deferred → Unread → LogFilesState Deferred → Type 0
StopsAtCommit last (Wanted block) new = (new ≡ last) × (lacked_by_commit last ≡ Some block)
StopsAtCommit last (Refused why) new = RefusesPutCommit last why new

-- A commit with this mark: steps were made while the log had no room for it, and then the commit was made.
pub record CommitsLog (old : LogFilesState Deferred) (mark : ℕ) (new : LogFilesState Deferred) : Type 0 where
  pub waits : ℕ
  pub last : LogFilesState Deferred
  pub earlier : MakesLogSteps WhileFull old waits last
  pub room : has_log_room last ≡ true
  pub commit : CommitsPut last mark new

-- A commit stopped for this reason. The steps that were made remain.
pub data StopsLogCommit (old : LogFilesState Deferred) : Unread → LogFilesState Deferred → Type 0 where
  -- The commit needs a step that isn't made.
  WithoutRoom : (waits : ℕ) (e : Unread) (last new : LogFilesState Deferred) → MakesLogSteps WhileFull old waits last
      → has_log_room last ≡ false → StopsAtStep last e new → StopsLogCommit old e new
  -- The log has room, but the commit itself isn't made.
  WithRoom : (waits : ℕ) (e : Unread) (last new : LogFilesState Deferred) → MakesLogSteps WhileFull old waits last
      → has_log_room last ≡ true → StopsAtCommit last e new → StopsLogCommit old e new

-- At most `most` steps were made: exactly `most`, or all that were left. `left` is whether a step is left now.
pub record WritesCommitsHome (most : ℕ) (old : LogFilesState Deferred) (left : Bool) (new : LogFilesState Deferred)
    : Type 0 where
  pub n : ℕ
  pub few : n ≤ most
  pub steps : MakesLogSteps AnyLogStep old n new
  pub all : left ≡ true → n ≡ most
  pub is_left : IsTrue left ↔ (IsAllHome new → ⊥)

-- The steps stopped before all were made, for this reason. The steps that were made remain.
pub record StopsSteps (most : ℕ) (old : LogFilesState Deferred) (e : Unread) (new : LogFilesState Deferred)
    : Type 0 where
  pub n : ℕ
  pub few : n < most
  pub last : LogFilesState Deferred
  pub steps : MakesLogSteps AnyLogStep old n last
  pub is_left : IsAllHome last → ⊥
  pub stop : StopsAtStep last e new
