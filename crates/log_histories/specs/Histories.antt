-- Histories of the calls on the files of a volume with a log.
use Rattle.std.specs.Prelude.{ℕ, ◌≡◌, ◌≢◌, ◌+◌, ◌*◌, List, [], ◌∷◌, ◌++◌, Bool, true, length, None}
use Rattle.page_entry.specs.declared.numbers.FilePage.{FilePage}
use Rattle.device.specs.Device.{LeavesOnly}
use Rattle.device.specs.declared.device.Device.{Ghosts}
use Rattle.volume_codec.specs.Files.{File}
use Rattle.volume_codec.specs.Layout.{block_at}
use Rattle.recovery.specs.Reading.{IsOnlyRead}
use Rattle.history.specs.History.{Event, Store, SetLength, Mark, Acknowledge, files_after, IsDurablePrefix}
use Rattle.kept_blocks.specs.Blocks.{AreWholeBlocks, homes_in}
use Rattle.pager.specs.State.{file_length}
use Rattle.log_codec.specs.Commit.{LogDescriptor}
use Rattle.log_recovery.specs.Reading.{ReadsAlone}
use Rattle.log_volume.specs.Files.{RecoversToLog, log_files_in}
use Rattle.log_opening.specs.Volume.{HasOpenedVolume}
use Rattle.log_commits.specs.Told.{TellsTorn, IsThis}
use Rattle.log_commits.specs.Commit.{next_logged}
use Rattle.log_commits.specs.Behind.{LeftUnchanged}
use Rattle.log_store.specs.declared.fault.Progress.{Progress}
use Rattle.log_store.specs.Store.{MayStepBy}
use Rattle.log_pager.specs.Pager.{IsPagerOver, LeftByPut, contents_put, records_put}
use Rattle.log_files.specs.State.{LogFilesState, fresh_log_files, on_device}
use Rattle.log_files.specs.Calls.{log_put_refusal, after_page_put, log_commit_refusal, MayCommitPut, DidCommit, DidStep}
use Rattle.log_files.specs.Calls.{IsLogFilesCommit, IsLogFilesStep, KeepsLogFiles, log_length_refusal, last_log_page}
use Rattle.log_files.specs.Calls.{after_log_length}

-- ---- commits, and what is trusted of bytes that a crash left

-- The next commit: that of the staged blocks, with its records.
abbrev pub IsCommitPut : {D : Type 0} → LogFilesState D → LogDescriptor → List ℕ → Type 0
IsCommitPut s = IsThis (next_logged s.pager.store.tail (homes_in s.pager.staged)) (records_put s.pager.staged)

-- The premise on bytes that a crash left, if a digest seals commits. Each commit that can be read from them, with this
-- state's next number or a later one, was made. If a byte seals commits, there is no premise.
abbrev pub TellsSince : {D : Type 0} → LogFilesState D → (LogDescriptor → List ℕ → Type 0) → List ℕ → Type 0
TellsSince s Made c = TellsTorn Made s.pager.store.tail.log s.pager.store.tail.number c

-- ---- calls

-- The home blocks keep the contents that the commits left.
abbrev pub KeepsContents : {D : Type 0} → Ghosts D → LogFilesState D → LogFilesState D → Type 0
KeepsContents disk s next =
    (contents : ℕ → List ℕ) → IsPagerOver disk s.pager contents → IsPagerOver disk next.pager contents

-- A page of these bytes was put. This is what `put` ensures.
pub record IsLogPut {D : Type 0} (disk : Ghosts D) (s : LogFilesState D) (owner : FilePage) (bytes : List ℕ)
    : Type 0 where
  pub admitted : log_put_refusal s owner ≡ None
  pub a_page : length bytes ≡ 4096
  pub over : KeepsContents disk s (after_page_put s owner bytes)

-- The device was only read. This is what `read` ensures, as do refused calls.
pub record IsLogRead {D : Type 0} (disk : Ghosts D) (s : LogFilesState D) (after : D) : Type 0 where
  pub read : IsOnlyRead disk s.pager.device after
  pub over : KeepsContents disk s (on_device s after)

-- Nothing changed, except possibly the memory that is reserved for the log's index. This is what a refused commit
-- ensures.
pub record IsLogRefused {D : Type 0} (disk : Ghosts D) (s next : LogFilesState D) : Type 0 where
  pub kept : KeepsLogFiles s next
  pub over : KeepsContents disk s next

-- The device calls of a commit of the staged blocks, over an honest device, and what a crash within them leaves. All of
-- the calls were made if `done`, or else those up to one that failed.
pub record IsLogCommitting {D : Type 0} (disk : Ghosts D) (s : LogFilesState D) (done : Bool) (after : D)
    : Type 0 where
  pub honest : disk.is_honest s.pager.device
  pub may : MayCommitPut s.pager
  pub whole : AreWholeBlocks s.pager.staged
  pub did : DidCommit disk s.pager done after
  pub leaves : (contents : ℕ → List ℕ) → IsPagerOver disk s.pager contents
      → LeavesOnly disk.moment disk.left_since s.pager.device after
      (LeftByPut s.pager.store.tail contents s.pager.staged)

-- The staged blocks were committed. This is what `commit` ensures.
pub record IsLogCommitted {D : Type 0} (disk : Ghosts D) (s next : LogFilesState D) : Type 0 where
  pub calls : IsLogCommitting disk s true next.pager.device
  pub made : IsLogFilesCommit disk s next
  pub over : (contents : ℕ → List ℕ) → IsPagerOver disk s.pager contents
      → IsPagerOver disk next.pager (contents_put contents s.pager.staged)

-- A commit without staged blocks.
pub record IsEmptyLogCommit {D : Type 0} (s : LogFilesState D) : Type 0 where
  pub admitted : log_commit_refusal s ≡ None
  pub none : s.pager.staged ≡ []

-- The device calls of a step, over an honest device. All of them were made if `done`, or else those up to one that
-- failed. They change no contents.
pub record IsLogStepping {D : Type 0} (disk : Ghosts D) (s : LogFilesState D) (done : Bool) (after : D)
    : Type 0 where
  pub honest : disk.is_honest s.pager.device
  pub may : MayStepBy s.pager.store s.pager.store.stage
  pub did : DidStep disk s.pager done after
  pub leaves : (contents : ℕ → List ℕ) → IsPagerOver disk s.pager contents
      → LeavesOnly disk.moment disk.left_since s.pager.device after (LeftUnchanged s.pager.store.tail contents)

-- That step was made. This is what `step` ensures.
pub record IsLogStepped {D : Type 0} (disk : Ghosts D) (s : LogFilesState D) (progress : Progress)
    (next : LogFilesState D) : Type 0 where
  pub calls : IsLogStepping disk s true next.pager.device
  pub made : IsLogFilesStep disk s progress next
  pub over : KeepsContents disk s next

-- A file's length changed. This is what `set_length` ensures.
pub record IsLogResize {D : Type 0} (disk : Ghosts D) (s : LogFilesState D) (file to : ℕ) (next : LogFilesState D)
    : Type 0 where
  pub admitted : log_length_refusal s file to ≡ None
  pub other : to ≢ file_length s.lengths file
  pub read : ReadsAlone disk s.pager.device next.pager.device
  pub resized : (contents : ℕ → List ℕ) → IsPagerOver disk s.pager contents
      → next ≡ after_log_length s file to (last_log_page s contents file) next.pager.device
  pub over : KeepsContents disk s next

-- Calls led from the state `start` to another one, and added these events to the history. A commit is durable when it
-- is made.
pub data HasGoneLog {D : Type 0} (disk : Ghosts D) (start : LogFilesState D)
    : List Event → LogFilesState D → Type 0 where
  LogStays : HasGoneLog disk start [] start
  LogPut : (events : List Event) (s : LogFilesState D) (owner : FilePage) (bytes : List ℕ)
      → IsLogPut disk s owner bytes → HasGoneLog disk start events s
      → HasGoneLog disk start (events ++ Store owner.file (4096 * owner.page) bytes ∷ [])
      (after_page_put s owner bytes)
  LogCommitted : (events : List Event) (s next : LogFilesState D) → IsLogCommitted disk s next
      → HasGoneLog disk start events s
      → HasGoneLog disk start (events ++ Mark (s.marks + 1) ∷ Acknowledge (s.marks + 1) ∷ []) next
  LogMarked : (events : List Event) (s : LogFilesState D) → IsEmptyLogCommit s → HasGoneLog disk start events s
      → HasGoneLog disk start (events ++ Mark (s.marks + 1) ∷ Acknowledge (s.marks + 1) ∷ [])
      (record s { marks = s.marks + 1 })
  LogStepped : (events : List Event) (s : LogFilesState D) (progress : Progress) (next : LogFilesState D)
      → IsLogStepped disk s progress next → HasGoneLog disk start events s → HasGoneLog disk start events next
  LogRead : (events : List Event) (s : LogFilesState D) (after : D) → IsLogRead disk s after
      → HasGoneLog disk start events s → HasGoneLog disk start events (on_device s after)
  LogRefused : (events : List Event) (s next : LogFilesState D) → IsLogRefused disk s next
      → HasGoneLog disk start events s → HasGoneLog disk start events next
  LogResized : (events : List Event) (s : LogFilesState D) (file to : ℕ) (next : LogFilesState D)
      → IsLogResize disk s file to next → HasGoneLog disk start events s
      → HasGoneLog disk start (events ++ SetLength file (file_length s.lengths file) to ∷ []) next

-- A volume was just opened. This is what `open` ensures.
pub record IsJustOpened {D : Type 0} (disk : Ghosts D) (before : D) (s : LogFilesState D) : Type 0 where
  pub opened : HasOpenedVolume disk before s.table s.lengths s.pager.store.tail.start s.pager.device
  pub begins : s
      ≡ fresh_log_files s.table s.lengths s.most s.pager.store.tail.start s.pager.store.second s.pager.device
  pub over : IsPagerOver disk s.pager (block_at (disk.seen s.pager.device))

-- Calls have led to this state since a volume with these files was opened. `history` is the history of the calls.
pub record HasComeLog {D : Type 0} (disk : Ghosts D) (files : List File) (history : List Event) (s : LogFilesState D)
    : Type 0 where
  pub before : D
  pub first : LogFilesState D
  pub opened : IsJustOpened disk before first
  pub files_are : files ≡ log_files_in first.table (block_at (disk.seen first.pager.device))
  pub gone : HasGoneLog disk first history s

-- ---- what a crash may leave

-- These bytes recover to the files after a durable prefix of the history.
pub record ReadsBackLog (files : List File) (history : List Event) (c : List ℕ) : Type 0 where
  pub prefix : List Event
  pub durable : IsDurablePrefix prefix history
  pub recovers : RecoversToLog c (files_after files prefix)
