-- What a crash may leave after a run from an earlier state of the files of a volume with a log.
use Rattle.std.specs.Prelude.{◌⊎◌, ℕ, List, ◌++◌, take}
use Rattle.device.specs.declared.device.Device.{Ghosts}
use Rattle.volume_codec.specs.Files.{File}
use Rattle.history.specs.History.{Event}
use Rattle.log_codec.specs.Commit.{LogDescriptor}
use Rattle.log_files.specs.State.{LogFilesState}
use Rattle.log_histories.specs.Histories.{HasGoneLog, LogStays, LogPut, LogCommitted, LogMarked, LogStepped, LogRead}
use Rattle.log_histories.specs.Histories.{LogRefused, LogResized, IsCommitPut, ReadsBackLog, TellsSince}

-- The run made this commit, with these records.
abbrev pub IsMadeIn : {D : Type 0} {disk : Ghosts D} {start : LogFilesState D} {events : List Event}
    {s : LogFilesState D} → HasGoneLog disk start events s → LogDescriptor → List ℕ → Type 0
IsMadeIn LogStays d records = ⊥
IsMadeIn (LogPut events s owner bytes put gone) d records = IsMadeIn gone d records
IsMadeIn (LogCommitted events s next commit gone) d records = IsMadeIn gone d records ⊎ IsCommitPut s d records
IsMadeIn (LogMarked events s commit gone) d records = IsMadeIn gone d records
IsMadeIn (LogStepped events s progress next step gone) d records = IsMadeIn gone d records
IsMadeIn (LogRead events s after read gone) d records = IsMadeIn gone d records
IsMadeIn (LogRefused events s next keeps gone) d records = IsMadeIn gone d records
IsMadeIn (LogResized events s file to next resize gone) d records = IsMadeIn gone d records

-- The run made this commit, or it is the commit of the blocks that are staged now.
abbrev pub IsMadeOrNext : {D : Type 0} {disk : Ghosts D} {start : LogFilesState D} {events : List Event}
    {s : LogFilesState D} → HasGoneLog disk start events s → LogDescriptor → List ℕ → Type 0
IsMadeOrNext {s = s} gone d records = IsMadeIn gone d records ⊎ IsCommitPut s d records

-- The premise on bytes that a crash left after a run: the run made each commit since its first state that can be read
-- from them.
abbrev pub TellsRun : {D : Type 0} {disk : Ghosts D} {start : LogFilesState D} {events : List Event}
    {s : LogFilesState D} → HasGoneLog disk start events s → List ℕ → Type 0
TellsRun {start = start} gone c = TellsSince start (IsMadeIn gone) c

-- The premise on bytes that a crash left within the next commit. The run made each commit since its first state that
-- can be read from them, or it is that next commit.
abbrev pub TellsNext : {D : Type 0} {disk : Ghosts D} {start : LogFilesState D} {events : List Event}
    {s : LogFilesState D} → HasGoneLog disk start events s → List ℕ → Type 0
TellsNext {start = start} gone c = TellsSince start (IsMadeOrNext gone) c

-- These bytes recover to the files after a durable prefix of the history, extended by some of the later events.
pub record ReadsBackAmongLog (files : List File) (history events : List Event) (c : List ℕ) : Type 0 where
  pub later : ℕ
  pub back : ReadsBackLog files (history ++ take later events) c
