-- Histories of the calls of a pager.
use Rattle.std.specs.Prelude.{ℕ, ◌≡◌, ◌≢◌, ◌⊎◌, ◌+◌, ◌*◌, false, List, [], ◌∷◌, ◌++◌, length, None}
use Rattle.device.specs.Did.{Did}
use Rattle.device.specs.declared.device.Device.{Ghosts}
use Rattle.page_entry.specs.declared.numbers.FilePage.{FilePage}
use Rattle.volume_codec.specs.Files.{File}
use Rattle.volume_codec.specs.Layout.{block_at}
use Rattle.volume_codec.specs.Recovery.{files_in}
use Rattle.journal.specs.Work.{has_done}
use Rattle.journal.specs.LedTo.{MayBegin}
use Rattle.journal.specs.declared.flushed.Flushed.{Flushed}
use Rattle.journal.specs.declared.flushed.Flushed.TheVariants.{Committed, Device}
use Rattle.journal.specs.WriteOuts.{next_work, next_answer}
use Rattle.recovery.specs.Reading.{IsOnlyRead}
use Rattle.recovery.specs.Volume.{VolumeState, IsAtRest}
use Rattle.history.specs.History.{Event, Store, SetLength, Mark, Acknowledge}
use Rattle.kept_blocks.specs.Blocks.{Blocks, homes_in}
use Rattle.pager.specs.State.{PagerState, newly_opened, file_length}
use Rattle.pager.specs.Calls.{put_refusal, commit_refusal, after_put, after_commit, after_step, next_bytes}
use Rattle.pager.specs.Calls.{set_length_refusal, last_page, after_length}

-- the events of a commit of these blocks; a commit of no blocks is acknowledged at once
abbrev pub marked_with : ℕ → Blocks → List Event
marked_with number [] = Mark number ∷ Acknowledge number ∷ []
marked_with number (block ∷ blocks) = Mark number ∷ []

-- the events of a step with this answer
abbrev pub acknowledged_by : Flushed → List Event
acknowledged_by (Committed mark) = Acknowledge mark ∷ []
acknowledged_by answer = []

-- A page with these bytes is put, as `put` ensures.
pub record IsPut {D : Type 0} (s : PagerState D) (owner : FilePage) (bytes : List ℕ) : Type 0 where
  pub admitted : put_refusal s owner ≡ None
  pub a_page : length bytes ≡ 4096

-- A step of a pager over an honest device returns `answer` and leaves the device `after`, as `step` ensures.
pub record IsPagerStep {D : Type 0} (disk : Ghosts D) (s : PagerState D) (answer : Flushed) (after : D) : Type 0 where
  pub whole : s.write_outs.broken ≡ false
  pub some : s.write_outs.batches ≢ []
  pub a_block : length (next_bytes s) ≡ 4096
  pub answered : (answer ≡ next_answer s.write_outs) ⊎ (answer ≡ Device)
  pub honest : disk.is_honest s.device
  pub did : Did disk s.device (next_work s.write_outs (next_bytes s)) (has_done answer) after

-- A commit of the put blocks begins, as `commit` ensures.
pub record IsBegunCommit {D : Type 0} (s : PagerState D) : Type 0 where
  pub admitted : commit_refusal s ≡ None
  pub may : s.staged ≢ [] → MayBegin s.write_outs (s.marks + 1) (homes_in s.staged)

-- A file's length changes to `to`. The device was only read, and is `after` then, as `set_length` ensures.
pub record IsResize {D : Type 0} (disk : Ghosts D) (s : PagerState D) (file to : ℕ) (after : D) : Type 0 where
  pub admitted : set_length_refusal s file to ≡ None
  pub other : to ≢ file_length s.lengths file
  pub read : IsOnlyRead disk s.device after

-- Calls led from the state `start` of a pager to another state, and added these events to the history.
pub data HasGone {D : Type 0} (disk : Ghosts D) (start : PagerState D) : List Event → PagerState D → Type 0 where
  Stays : HasGone disk start [] start
  ThenPut : (events : List Event) (s : PagerState D) (owner : FilePage) (bytes : List ℕ) → IsPut s owner bytes
      → HasGone disk start events s
      → HasGone disk start (events ++ Store owner.file (4096 * owner.page) bytes ∷ []) (after_put s owner bytes)
  ThenCommitted : (events : List Event) (s : PagerState D) → IsBegunCommit s → HasGone disk start events s
      → HasGone disk start (events ++ marked_with (s.marks + 1) s.staged) (after_commit s)
  ThenStepped : (events : List Event) (s : PagerState D) (answer : Flushed) (after : D)
      → IsPagerStep disk s answer after → HasGone disk start events s
      → HasGone disk start (events ++ acknowledged_by answer) (after_step s answer after)
  ThenRead : (events : List Event) (s : PagerState D) (after : D) → IsOnlyRead disk s.device after
      → HasGone disk start events s → HasGone disk start events (record s { device = after })
  ThenResized : (events : List Event) (s : PagerState D) (file to : ℕ) (after : D) → IsResize disk s file to after
      → HasGone disk start events s
      → HasGone disk start (events ++ SetLength file (file_length s.lengths file) to ∷ [])
      (after_length s file to (last_page s (disk.seen s.device) file) after)

-- Calls with this history led to this state of a pager. They began with the opening of a volume at rest with `files`.
pub record HasCome {D : Type 0} (disk : Ghosts D) (files : List File) (history : List Event) (s : PagerState D)
    : Type 0 where
  pub volume : VolumeState D
  pub most : ℕ
  pub rest : IsAtRest disk volume
  pub files_are : files ≡ files_in volume.table (block_at (disk.seen volume.device))
  pub gone : HasGone disk (newly_opened volume most) history s
