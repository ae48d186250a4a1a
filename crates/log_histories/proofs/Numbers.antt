-- The number of the next commit, along calls.
use Rattle.std.proofs.Common.{◌≡◌, ◌+◌, ◌≤◌, ℕ, List, refl, ap, ◌∙◌, arith, Option, Some, None}
use Rattle.device.specs.declared.device.Device.{Ghosts}
use Rattle.history.specs.History.{Event}
use Rattle.log_commits.specs.Tail.{TailValue}
use Rattle.log_commits.specs.declared.behind.OldCommits.{OldCommits}
use Rattle.log_store.specs.declared.stage.HomeStage.{HomeStage}
use Rattle.log_store.specs.declared.fault.Progress.{Progress}
use Rattle.log_store.specs.Store.{StoreValue, committing_tail, selection, tail_by}
use Rattle.log_store.proofs.Public.{step_cases}
use Rattle.log_files.specs.State.{LogFilesState}
use Rattle.log_histories.specs.Histories.{HasGoneLog, IsLogCommitted, IsLogStepped}
use Rattle.log_histories.specs.Histories.{LogStays, LogPut, LogCommitted, LogMarked, LogStepped, LogRead, LogRefused}
use Rattle.log_histories.specs.Histories.{LogResized}

abbrev pub number_of : {D : Type 0} → LogFilesState D → ℕ
number_of s = s.pager.store.tail.number

committing_number : (s : StoreValue) → (let t = committing_tail s in t.number ≡ s.tail.number)
committing_number s = by (selection s)
  where
    by : (o : Option OldCommits) → (let t = tail_by s.tail o in t.number ≡ s.tail.number)
    by None = refl
    by (Some oldest) = refl

pub number_committed : {D : Type 0} (disk : Ghosts D) (s next : LogFilesState D) → IsLogCommitted disk s next
    → number_of next ≡ number_of s + 1
number_committed disk s next commit =
    ap (λ (t : TailValue). t.number) commit.made.noted.tail
    ∙ ap (λ (n : ℕ). n + 1) (committing_number s.pager.store)

pub number_stepped : {D : Type 0} (disk : Ghosts D) (s : LogFilesState D) (progress : Progress) (next : LogFilesState D)
    → IsLogStepped disk s progress next → number_of next ≡ number_of s
number_stepped disk s progress next step =
    let old : StoreValue = s.pager.store in
    let P : HomeStage → Progress → StoreValue → Type 0 = λ stage made new. new.tail.number ≡ old.tail.number in
    step_cases old next.pager.store P (λ none. refl) (λ used. refl) (λ apart. refl) (λ done. refl) refl
    (λ has. ap (λ (t : TailValue). t.number) has.tail) old.stage progress step.made.steps

-- by the run
abbrev pub number_by : {D : Type 0} {disk : Ghosts D} {start : LogFilesState D} {events : List Event}
    {s : LogFilesState D} → HasGoneLog disk start events s → ℕ
number_by {start = start} LogStays = number_of start
number_by (LogPut events s owner bytes put gone) = number_by gone
number_by (LogCommitted events s next commit gone) = number_by gone + 1
number_by (LogMarked events s commit gone) = number_by gone
number_by (LogStepped events s progress next step gone) = number_by gone
number_by (LogRead events s after read gone) = number_by gone
number_by (LogRefused events s next refused gone) = number_by gone
number_by (LogResized events s file to next resize gone) = number_by gone

-- it rises
pub rises : {D : Type 0} {disk : Ghosts D} {start : LogFilesState D} {events : List Event}
    {s : LogFilesState D} (gone : HasGoneLog disk start events s) → number_of start ≤ number_by gone
rises LogStays = omega arith
rises (LogPut events s owner bytes put gone) = rises gone
rises (LogCommitted events s next commit gone) = omega (arith, rises gone)
rises (LogMarked events s commit gone) = rises gone
rises (LogStepped events s progress next step gone) = rises gone
rises (LogRead events s after read gone) = rises gone
rises (LogRefused events s next refused gone) = rises gone
rises (LogResized events s file to next resize gone) = rises gone
