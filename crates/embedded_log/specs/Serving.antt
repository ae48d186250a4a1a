-- What a volume with a log has served, and which marks are acknowledged.
use Rattle.std.specs.Prelude.{ℕ, ◌≡◌, ◌-◌, ◌^◌, ◌≤◌, min, List, Contains, Option, IfSome}
use Rattle.deferred_disk.specs.Deferred.{Deferred, as_memory, carried_moment, IsSuppliedWell}
use Rattle.device.specs.Memory.{moment_of, seen_of}
use Rattle.volume_codec.specs.Files.{File}
use Rattle.volume_codec.specs.Layout.{block_at}
use Rattle.history.specs.History.{Event, Acknowledge}
use Rattle.log_volume.specs.Files.{RecoversToLog, log_files_in}
use Rattle.log_files.specs.State.{LogFilesState}
use Rattle.log_histories.specs.Histories.{IsJustOpened}
use Rattle.embedded.specs.Recorded.{deferred_disk}
use Rattle.embedded_log.specs.Runs.{HasRunLog, HasServedLog}

-- A volume with these files was opened.
pub record IsFirst (files : List File) (first : LogFilesState Deferred) : Type 0 where
  pub before : Deferred
  pub opened : IsJustOpened deferred_disk before first
  pub files_are : files ≡ log_files_in first.table (block_at (deferred_disk.seen first.pager.device))
  pub recovered : RecoversToLog (seen_of (as_memory before)) files

-- Calls led from the opening of a volume with these files to a state `mid`. By the history up to there the mark is
-- acknowledged. Later calls led from `mid` to this state.
pub record HasPassedLogMark (files : List File) (mark : ℕ) (s : LogFilesState Deferred) : Type 0 where
  pub first : LogFilesState Deferred
  pub opened : IsFirst files first
  pub earlier : List Event
  pub mid : LogFilesState Deferred
  pub run : HasRunLog first earlier mid
  pub acknowledges : Contains earlier (Acknowledge mark)
  pub later : List Event
  pub served : HasServedLog mid later s

-- The calls have passed the mark, and at `mid` the number of recorded device calls was `due`. (A count stays at 2^64-1
-- once it is that large.)
abbrev pub HasNeededLog : List File → (due mark : ℕ) → LogFilesState Deferred → Type 0
HasNeededLog files due mark s =
    (reached : HasPassedLogMark files mark s)
    × (due ≡ min (moment_of (as_memory reached.mid.pager.device)) (2 ^ 64 - 1))

-- The calls have passed the mark, and the host has made the device calls that were recorded at `mid`.
abbrev pub HasMadeLogCalls : List File → (mark : ℕ) → LogFilesState Deferred → Type 0
HasMadeLogCalls files mark s =
    (reached : HasPassedLogMark files mark s)
    × (moment_of (as_memory reached.mid.pager.device) ≤ carried_moment s.pager.device)

-- Calls led to this state from the opening of a volume. It had the files to which the opened disk's bytes recover. On
-- the way the history acknowledged the mark of the last commit, when `due` device calls were recorded. It also
-- acknowledged the mark `acknowledged`, and the host has made the device calls that this mark needs.
pub record ServesLogFiles (s : LogFilesState Deferred) (committed : Option ℕ) (due : ℕ) (acknowledged : Option ℕ)
    : Type 0 where
  pub files : List File
  pub first : LogFilesState Deferred
  pub opened : IsFirst files first
  pub history : List Event
  pub served : HasServedLog first history s
  pub commits : IfSome committed (λ mark. HasNeededLog files due mark s)
  pub durable : IfSome acknowledged (λ mark. HasMadeLogCalls files mark s)

-- The same, under the condition that the host supplied each block as the disk had it.
abbrev pub ServesLogWell : LogFilesState Deferred → Option ℕ → ℕ → Option ℕ → Type 0
ServesLogWell s committed due acknowledged =
    IsSuppliedWell s.pager.device → ServesLogFiles s committed due acknowledged
