-- Steps that are made for a commit, and commits.
use Rattle.std.proofs.Common.{◌≡◌, ◌≢◌, ℕ, ◌+◌, List, [], ◌∷◌, Bool, true, false}
use Rattle.std.proofs.Common.{refl, subst, arith}
use Rattle.std.proofs.Common.{inl, inr, ◌⊎◌, Option, Some, None}
use Rattle.std.specs.Prelude.{IsTrue, ◌↔◌, Result, Ok, Err, IfOk, IfErr, nat_le, not, ◌&&◌, ◌||◌, ◌^◌, ◌-◌}
use Rattle.std.proofs.lemmas.Bool.{iff_false}
use Rattle.deferred_disk.specs.Deferred.{Deferred}
use Rattle.page_entry.specs.declared.refusal.Refusal.{Refusal}
use Rattle.page_entry.specs.declared.refusal.Refusal.TheVariants as refusals
use Rattle.pager.specs.Calls.{first_reason, reason_if}
use Rattle.log_store.specs.declared.fault.Progress.{Progress}
use Rattle.log_store.specs.declared.fault.Progress.TheVariants as steps
use Rattle.log_files.specs.State.{LogFilesState}
use Rattle.log_store.specs.Store.{StepsBy}
use Rattle.log_files.specs.Calls.{log_commit_refusal, has_number_for, has_blocks_for, IsLogFilesStep}
use Rattle.embedded.specs.declared.reading.Unread.{Unread}
use Rattle.embedded.specs.Recorded.{deferred_disk}
use Rattle.embedded_log.specs.Needs.{lacked_by_step}
use Rattle.embedded_log.specs.Steps.{MakesLogSteps, NoLogStep, ThenLogStep, WhileFull}
use Rattle.embedded_log.specs.Steps.{CommitsLog, CommitsPut, StopsLogCommit, WithRoom, StopsAtCommit}
use Rattle.embedded_log.specs.Steps.{IsAllHome, has_log_room}
use Rattle.embedded_log.specs.inside.Leading.{LeadsLog, RunsLog, HasAcknowledgedMark}
use Rattle.embedded_log.specs.inside.Rounds.{MakesWhileFull, StopsWhileFull}
use Rattle.embedded_log.proofs.Leading.{not_both, runs_on}

-- ---- steps one after another

pub steps_on : (holds : LogFilesState Deferred → Type 0) (a b : LogFilesState Deferred) (n : ℕ)
    → MakesLogSteps holds a n b → {m : ℕ} {c : LogFilesState Deferred} → MakesLogSteps holds b m c
    → MakesLogSteps holds a (n + m) c
steps_on holds a b n first NoLogStep = subst (λ (k : ℕ). MakesLogSteps holds a k b) (omega arith) first
steps_on holds a b n first (ThenLogStep m last new progress held known some step steps) =
    let same : n + m + 1 ≡ n + (m + 1) = omega arith in
    subst (λ (k : ℕ). MakesLogSteps holds a k new) same
    (ThenLogStep (n + m) last new progress held known some step (steps_on holds a b n first steps))

pub makes_on : (a b c : LogFilesState Deferred) → MakesWhileFull a b → MakesWhileFull b c → MakesWhileFull a c
makes_on a b c first second = (first.0 + second.0, steps_on WhileFull a b first.0 first.1 second.1)

pub stops_on : (a b : LogFilesState Deferred) (e : Unread) (c : LogFilesState Deferred) → MakesWhileFull a b
    → StopsWhileFull b e c → StopsWhileFull a e c
stops_on a b e c first stop = (stop.0, makes_on a b stop.0 first stop.1, stop.2, stop.3)

-- no device call had failed before a step that was made
whole_before : (holds : LogFilesState Deferred → Type 0) (a : LogFilesState Deferred) {n : ℕ}
    {b : LogFilesState Deferred} → MakesLogSteps holds a n b → b.pager.store.tail.spent ≡ false
    → a.pager.store.tail.spent ≡ false
whole_before holds a NoLogStep whole = whole
whole_before holds a (ThenLogStep n last new progress held known some step steps) whole =
    whole_before holds a steps step.whole

-- ---- refusals

first_not : (spent : Bool) (rest : List (Option Refusal))
    → first_reason (reason_if spent refusals.Broken ∷ rest) ≡ None → spent ≡ false
first_not false rest none = refl
first_not true rest none = absurd (let e : Some refusals.Broken ≡ None = none in cc)

pub admitted_whole : (s : LogFilesState Deferred) → log_commit_refusal s ≡ None → s.pager.store.tail.spent ≡ false
admitted_whole s none =
    first_not s.pager.store.tail.spent (reason_if (nat_le (2 ^ 32 - 1) s.marks
    || not (has_number_for s.pager.store.tail s.pager.staged && has_blocks_for s.pager.store.tail s.pager.staged))
    refusals.Busy ∷ []) none

pub commits_whole : (old : LogFilesState Deferred) (mark : ℕ) (new : LogFilesState Deferred) → CommitsLog old mark new
    → old.pager.store.tail.spent ≡ false
commits_whole old mark new it = whole_before WhileFull old it.earlier (admitted_whole it.last it.commit.admitted)

-- ---- a refusal is that of a device call, or another

pub device_or_not : (why : Refusal) → (why ≡ refusals.Device) ⊎ (why ≢ refusals.Device)
device_or_not refusals.Stalled = inr (λ is. absurd (cc))
device_or_not refusals.Locked = inr (λ is. absurd (cc))
device_or_not (refusals.NotYet n) = inr (λ is. absurd (cc))
device_or_not (refusals.Fault n) = inr (λ is. absurd (cc))
device_or_not refusals.SegvMapErr = inr (λ is. absurd (cc))
device_or_not refusals.SegvAccErr = inr (λ is. absurd (cc))
device_or_not refusals.BusAdrErr = inr (λ is. absurd (cc))
device_or_not refusals.Held = inr (λ is. absurd (cc))
device_or_not refusals.NoFrame = inr (λ is. absurd (cc))
device_or_not refusals.Device = inl refl
device_or_not refusals.Broken = inr (λ is. absurd (cc))
device_or_not refusals.Einval = inr (λ is. absurd (cc))
device_or_not refusals.Enomem = inr (λ is. absurd (cc))
device_or_not refusals.Eacces = inr (λ is. absurd (cc))
device_or_not refusals.Overlap = inr (λ is. absurd (cc))
device_or_not refusals.NoFile = inr (λ is. absurd (cc))
device_or_not refusals.Busy = inr (λ is. absurd (cc))
device_or_not refusals.NotResident = inr (λ is. absurd (cc))
device_or_not refusals.TraceFull = inr (λ is. absurd (cc))
device_or_not refusals.OutOfMemory = inr (λ is. absurd (cc))
device_or_not refusals.NotAVolume = inr (λ is. absurd (cc))
device_or_not refusals.Damaged = inr (λ is. absurd (cc))
device_or_not refusals.BadShape = inr (λ is. absurd (cc))

-- ---- a commit after steps

pub stops_with_room : (a b c : LogFilesState Deferred) (result : Result ℕ Unread) → MakesWhileFull a b
    → has_log_room b ≡ true → IfErr result (λ e. StopsAtCommit b e c) → IfErr result (λ e. StopsLogCommit a e c)
stops_with_room a b c (Ok mark) steps room stop = tt
stops_with_room a b c (Err e) steps room stop = WithRoom steps.0 e b c steps.1 room stop

pub acknowledges_on : (a b c : LogFilesState Deferred) (result : Result ℕ Unread) → LeadsLog a b
    → IfOk result (λ mark. CommitsPut b mark c)
    → IfOk result (λ mark. RunsLog (HasAcknowledgedMark mark) b c)
    → IfOk result (λ mark. RunsLog (HasAcknowledgedMark mark) a c)
acknowledges_on a b c (Ok mark) leads commits runs =
    runs_on (HasAcknowledgedMark mark) a b c (admitted_whole b commits.admitted) leads runs
acknowledges_on a b c (Err e) leads commits runs = tt

-- ---- a step that had something to do

-- a step without one is made where each commit is home
abbrev IdlesHome : LogFilesState Deferred → LogFilesState Deferred → Type 0
IdlesHome old new = StepsBy old.pager.store old.pager.store.stage new.pager.store steps.Idle → IsAllHome old

steps_idle : (old new : LogFilesState Deferred) (progress : Progress) → IdlesHome old new
    → IsLogFilesStep deferred_disk old progress new → progress ≡ steps.Idle → IsAllHome old
steps_idle old new progress idle step is =
    idle (subst (λ (p : Progress). StepsBy old.pager.store old.pager.store.stage new.pager.store p) is step.steps)

-- where the log has no room, some commit isn't home
pub not_idle : (old new : LogFilesState Deferred) (progress : Progress) → has_log_room old ≡ false
    → (old.pager.store.tail.used ≡ 0 → has_log_room old ≡ true) → IdlesHome old new
    → IsLogFilesStep deferred_disk old progress new → progress ≢ steps.Idle
not_idle old new progress full empty idle step = λ is.
    not_both (has_log_room old) (empty (steps_idle old new progress idle step is).0) full

pub left_not_idle : (old new : LogFilesState Deferred) (progress : Progress) (home : Bool) → IsTrue home ↔ IsAllHome old
    → home ≡ false → IdlesHome old new → IsLogFilesStep deferred_disk old progress new → progress ≢ steps.Idle
left_not_idle old new progress home told not_home idle step = λ is.
    iff_false told not_home (steps_idle old new progress idle step is)

pub not_moved : (progress : Progress) (moved : Bool) → IsTrue moved ↔ (progress ≡ steps.Moved) → moved ≡ false
    → progress ≢ steps.Moved
not_moved progress moved told stays = λ is. iff_false told stays is

pub one_more : (a old new : LogFilesState Deferred) (progress : Progress) → MakesWhileFull a old
    → has_log_room old ≡ false → lacked_by_step old ≡ None → progress ≢ steps.Idle
    → IsLogFilesStep deferred_disk old progress new → MakesWhileFull a new
one_more a old new progress made full known some step =
    (made.0 + 1, ThenLogStep made.0 old new progress full known some step made.1)
