-- Runs of a volume with a log whose device calls a host makes, and the premise on the bytes that a crash leaves then.
use Rattle.std.specs.Prelude.{◌≡◌, ℕ, ◌+◌, true, false, List, [], ◌∷◌, ◌++◌}
use Rattle.deferred_disk.specs.Deferred.{Deferred}
use Rattle.recovery.specs.Reading.{IsOnlyRead}
use Rattle.history.specs.History.{Event, Mark}
use Rattle.log_files.specs.State.{LogFilesState}
use Rattle.log_histories.specs.Histories.{HasGoneLog, IsLogCommitting, IsLogStepping}
use Rattle.log_histories.specs.Runs.{TellsRun, TellsNext}
use Rattle.embedded.specs.Recorded.{deferred_disk}

-- Calls led from one state to another and added these events to the history. Each of their device calls succeeded.
abbrev pub HasRunLog : LogFilesState Deferred → List Event → LogFilesState Deferred → Type 0
HasRunLog start events s = HasGoneLog deferred_disk start events s

-- The outcome of calls: a run; or a run, and then a commit or a step with a failed device call. After that failure, the
-- device was only read.
pub data HasServedLog (start : LogFilesState Deferred) : List Event → LogFilesState Deferred → Type 0 where
  Unfailed : (events : List Event) (s : LogFilesState Deferred) → HasRunLog start events s → HasServedLog start events s
  StoppedInCommit : (events : List Event) (last s : LogFilesState Deferred) (mid : Deferred)
      → IsLogCommitting deferred_disk last false mid → IsOnlyRead deferred_disk mid s.pager.device
      → s.pager.store.tail.spent ≡ true → HasRunLog start events last
      → HasServedLog start (events ++ Mark (last.marks + 1) ∷ []) s
  StoppedInStep : (events : List Event) (last s : LogFilesState Deferred) (mid : Deferred)
      → IsLogStepping deferred_disk last false mid → IsOnlyRead deferred_disk mid s.pager.device
      → s.pager.store.tail.spent ≡ true → HasRunLog start events last → HasServedLog start events s

-- The premise on bytes that a crash left. Each commit since the first state that can be read from them was made by
-- these calls, or is the commit that failed. If a byte seals commits, there is no premise.
abbrev pub TellsServed : {start : LogFilesState Deferred} {events : List Event} {s : LogFilesState Deferred}
    → HasServedLog start events s → List ℕ → Type 0
TellsServed (Unfailed events s run) c = TellsRun run c
TellsServed (StoppedInCommit events last s mid call read spent run) c = TellsNext run c
TellsServed (StoppedInStep events last s mid call read spent run) c = TellsRun run c
