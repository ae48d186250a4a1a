-- What the calls on the files of a volume with a log do, and why they are refused.
use Rattle.std.specs.Prelude.{ℕ, ◌≡◌, ◌≢◌, ◌+◌, ◌-◌, ◌*◌, ◌/◌, ◌%◌, ◌^◌, ◌==◌, ◌||◌, ◌&&◌, not, nat_lt, nat_le}
use Rattle.std.specs.Prelude.{Bool, true, false, List, [], ◌∷◌, length, slice_set, slice_index_or}
use Rattle.std.specs.Prelude.{Option, Some, None, Result, Ok, Err, is_none, if◌then◌else◌}
use Rattle.page_entry.specs.declared.numbers.FilePage.{FilePage}
use Rattle.page_entry.specs.declared.refusal.Refusal.{Refusal}
use Rattle.page_entry.specs.declared.refusal.Refusal.TheVariants as refusals
use Rattle.device.specs.declared.device.Device.{Ghosts}
use Rattle.volume_codec.specs.Lengths.{lengths_text}
use Rattle.volume_codec.specs.Super.{capacities_in, pages_of}
use Rattle.kept_blocks.specs.Blocks.{Blocks, bytes_in, homes_in, with_home, with_zeros, without_run, cut_in, cut_to}
use Rattle.pager.specs.State.{file_length, up_to_end}
use Rattle.pager.specs.Calls.{first_reason, reason_if, page_refusal, end_page}
use Rattle.log_codec.specs.Log.{first_log_home, log_commit_blocks}
use Rattle.log_codec.specs.Chain.{spare_blocks}
use Rattle.log_volume.specs.Super.{LogSuperValue, table_of}
use Rattle.log_commits.specs.Calls.{DidAll}
use Rattle.log_commits.specs.Commit.{MayCommit}
use Rattle.log_commits.specs.Tail.{TailValue}
use Rattle.log_store.specs.declared.fault.Progress.{Progress}
use Rattle.log_store.specs.declared.stage.HomeStage.TheVariants.{Resting}
use Rattle.log_store.specs.Store.{HasNoted, KeepsStore, MayStepBy, StepsBy, step_works, store_commit_works}
use Rattle.log_pager.specs.Pager.{LogPagerValue, contents_put, records_put}
use Rattle.log_files.specs.State.{LogFilesState, log_first_home_of, log_home_of, pages_put, takes_no_page}
use Rattle.log_files.specs.State.{with_staged}

-- ---- openings

-- The result of an opening (the table of the opened files, or the refusal), and the device after it.
abbrev pub opening_result : {D : Type 0} → Result (LogFilesState D) (Refusal × D) → Result LogSuperValue Refusal
opening_result (Ok files) = Ok files.table
opening_result (Err refused) = Err refused.0

abbrev pub opening_leaves : {D : Type 0} → Result (LogFilesState D) (Refusal × D) → D
opening_leaves (Ok files) = files.pager.device
opening_leaves (Err refused) = refused.1

-- ---- pages

-- The first reason against putting a page, in this order: the page's own reasons; an earlier device call failed; the
-- next commit takes no further page.
abbrev pub log_put_refusal : {D : Type 0} → LogFilesState D → FilePage → Option Refusal
log_put_refusal s owner =
    first_reason (page_refusal s.lengths owner
    ∷ reason_if s.pager.store.tail.spent refusals.Broken
    ∷ reason_if (takes_no_page s.table s.most s.pager.staged (log_home_of s.table owner)) refusals.NoFrame ∷ [])

-- Holds if `put` may fail with this refusal: the first reason against it. Without a reason, it may still fail for lack
-- of memory.
abbrev pub RefusesPagePut : {D : Type 0} → LogFilesState D → FilePage → Refusal → Type 0
RefusesPagePut s owner refusals.OutOfMemory = log_put_refusal s owner ≡ None
RefusesPagePut s owner why = log_put_refusal s owner ≡ Some why

-- The state after a page was put. The block has the given bytes up to the end of the page's file, then zeros.
abbrev pub after_page_put : {D : Type 0} → LogFilesState D → FilePage → List ℕ → LogFilesState D
after_page_put s owner bytes = with_staged s
    (with_home s.pager.staged (log_home_of s.table owner) (up_to_end s.lengths owner bytes))

-- Holds if `read` may fail with this refusal: the reason against the page. Without a reason, the device call for a page
-- that is not staged may fail.
abbrev pub RefusesPageRead : {D : Type 0} → LogFilesState D → FilePage → Refusal → Type 0
RefusesPageRead s owner refusals.Device =
    (page_refusal s.lengths owner ≡ None) × (bytes_in s.pager.staged (log_home_of s.table owner) ≡ None)
RefusesPageRead s owner why = page_refusal s.lengths owner ≡ Some why

-- The number of device calls that reading a page makes: one if the page is in its file and not staged, or else none.
abbrev pub page_read_calls : {D : Type 0} → LogFilesState D → FilePage → ℕ
page_read_calls s owner =
    if is_none (page_refusal s.lengths owner) && is_none (bytes_in s.pager.staged (log_home_of s.table owner))
    then 1 else 0

-- ---- commits

-- Whether the log has enough free blocks for a commit of these blocks, and a number for the commit. A commit of no
-- blocks needs neither.
abbrev pub has_blocks_for : TailValue → Blocks → Bool
has_blocks_for t [] = true
has_blocks_for t (block ∷ blocks) =
    nat_le (t.used + log_commit_blocks (length (block ∷ blocks)) + spare_blocks t.log.sealing) t.log.ring

abbrev pub has_number_for : TailValue → Blocks → Bool
has_number_for t [] = true
has_number_for t (block ∷ blocks) = nat_lt (t.number + 1) (2 ^ 64)

-- The first reason against a commit. First, an earlier device call failed. Second, the marks or the numbers of commits
-- are used up, or the log has too few free blocks.
abbrev pub log_commit_refusal : {D : Type 0} → LogFilesState D → Option Refusal
log_commit_refusal s =
    first_reason (reason_if s.pager.store.tail.spent refusals.Broken
    ∷ reason_if (nat_le (2 ^ 32 - 1) s.marks
    || not (has_number_for s.pager.store.tail s.pager.staged && has_blocks_for s.pager.store.tail s.pager.staged))
    refusals.Busy ∷ [])

-- Holds if a commit may fail with this refusal: the first reason against it. Without a reason, a commit of some blocks
-- may fail for lack of memory, or because a device call fails.
abbrev pub RefusesFilesCommit : {D : Type 0} → LogFilesState D → Refusal → Type 0
RefusesFilesCommit s refusals.OutOfMemory = (log_commit_refusal s ≡ None) × (s.pager.staged ≢ [])
RefusesFilesCommit s refusals.Device = (log_commit_refusal s ≡ None) × (s.pager.staged ≢ [])
RefusesFilesCommit s why = log_commit_refusal s ≡ Some why

-- The device calls of a commit of the staged blocks were made: all of them if `done`, or else up to one that failed. If
-- the commit moves the start of the log, the calls for that are included.
abbrev pub DidCommit : {D : Type 0} → Ghosts D → LogPagerValue D → Bool → D → Type 0
DidCommit disk p done after =
    DidAll disk p.device (store_commit_works p.store (homes_in p.staged) (records_put p.staged)) done after

-- Holds if a commit of the staged blocks may begin.
abbrev pub MayCommitPut : {D : Type 0} → LogPagerValue D → Type 0
MayCommitPut p = MayCommit p.store.tail (homes_in p.staged) (4096 * log_commit_blocks (length p.staged) + 1)

-- The staged blocks of `old` were committed, under the next mark.
pub record IsLogFilesCommit {D : Type 0} (disk : Ghosts D) (old new : LogFilesState D) : Type 0 where
  pub admitted : log_commit_refusal old ≡ None
  pub may : MayCommitPut old.pager
  pub noted : HasNoted old.pager.store new.pager.store (homes_in old.pager.staged)
  pub did : DidCommit disk old.pager true new.pager.device
  pub rest : new ≡ record old {
    marks = old.marks + 1;
    pager = record { store = new.pager.store; staged = []; device = new.pager.device };
  }

-- A device call of a commit failed. The staged blocks remain staged, and the log accepts no further commit.
pub record IsFailedLogCommit {D : Type 0} (disk : Ghosts D) (old new : LogFilesState D) : Type 0 where
  pub may : MayCommitPut old.pager
  pub did : DidCommit disk old.pager false new.pager.device
  pub spent : new.pager.store.tail ≡ record old.pager.store.tail { spent = true }
  pub rest : new ≡ record old {
    pager = record old.pager { store = new.pager.store; device = new.pager.device };
  }

-- Nothing changed, except possibly the memory that is reserved for the log's index.
pub record KeepsLogFiles {D : Type 0} (old new : LogFilesState D) : Type 0 where
  pub store : KeepsStore old.pager.store new.pager.store
  pub rest : new ≡ record old { pager = record old.pager { store = new.pager.store } }

-- ---- steps

-- The device calls of the next step that writes commits home were made: all of them if `done`, or else up to one that
-- failed.
abbrev pub DidStep : {D : Type 0} → Ghosts D → LogPagerValue D → Bool → D → Type 0
DidStep disk p done after = DidAll disk p.device (step_works p.store p.store.stage) done after

-- The next step that writes commits home was made, and it made this progress.
pub record IsLogFilesStep {D : Type 0} (disk : Ghosts D) (old : LogFilesState D) (progress : Progress)
    (new : LogFilesState D) : Type 0 where
  pub whole : old.pager.store.tail.spent ≡ false
  pub may : MayStepBy old.pager.store old.pager.store.stage
  pub steps : StepsBy old.pager.store old.pager.store.stage new.pager.store progress
  pub did : DidStep disk old.pager true new.pager.device
  pub rest : new ≡ record old {
    pager = record old.pager { store = new.pager.store; device = new.pager.device };
  }

-- A device call of that step failed. The log accepts no further commit or step.
pub record IsFailedLogStep {D : Type 0} (disk : Ghosts D) (old new : LogFilesState D) : Type 0 where
  pub whole : old.pager.store.tail.spent ≡ false
  pub may : MayStepBy old.pager.store old.pager.store.stage
  pub did : DidStep disk old.pager false new.pager.device
  pub spent : new.pager.store.tail ≡ record old.pager.store.tail { spent = true }
  pub rest : new ≡ record old {
    pager = record old.pager { store = new.pager.store; device = new.pager.device };
  }

-- Holds if a step may fail with this refusal. An earlier device call failed, or one fails now. The first step of a
-- round may fail for lack of memory.
abbrev pub RefusesFilesStep : {D : Type 0} → LogFilesState D → Refusal → Type 0
RefusesFilesStep s refusals.Broken = s.pager.store.tail.spent ≡ true
RefusesFilesStep s refusals.Device = (s.pager.store.tail.spent ≡ false) × (s.pager.store.stage ≢ Resting)
RefusesFilesStep s refusals.OutOfMemory = (s.pager.store.tail.spent ≡ false) × (s.pager.store.stage ≡ Resting)
RefusesFilesStep s other = ⊥

-- ---- lengths

-- The staged blocks after a file grows from length `from` to length `to`. The page in which it ended has the bytes
-- `last` up to the old end, then zeros. Each page after that one, up to the new end, is zero.
abbrev pub log_grown : LogSuperValue → ℕ → ℕ → ℕ → List ℕ → Blocks → Blocks
log_grown v file from to last staged =
    with_home (with_zeros staged (log_home_of v (end_page file from) + 1) (pages_of to - (from / 4096 + 1)))
    (log_home_of v (end_page file from)) (cut_to (from % 4096) last)

-- The staged blocks after a file shrinks. Its pages past the new end are no longer staged. If the page in which it ends
-- is staged, its bytes past the new end are zero.
abbrev pub log_shrunk : LogSuperValue → ℕ → ℕ → ℕ → Blocks → Blocks
log_shrunk v file from to staged =
    cut_in (without_run staged (log_first_home_of v file + pages_of to) (log_first_home_of v file + pages_of from))
    (log_home_of v (end_page file to)) (to % 4096)

-- The staged blocks after a file's length changes, if `last` are the bytes of the page in which it ended. They include
-- the block of the lengths.
abbrev pub log_restaged : LogSuperValue → List ℕ → ℕ → ℕ → List ℕ → Blocks → Blocks
log_restaged v lengths file to last staged =
    with_home (if nat_lt (file_length lengths file) to then log_grown v file (file_length lengths file) to last staged
    else log_shrunk v file (file_length lengths file) to staged)
    (first_log_home v.ring) (lengths_text (slice_set lengths file to))

-- The first reason against changing a file's length. First, an earlier device call failed. Second, more pages would be
-- staged than the next commit takes. The number of these pages does not depend on the bytes of any page.
abbrev pub new_log_length_refusal : {D : Type 0} → LogFilesState D → ℕ → ℕ → Option Refusal
new_log_length_refusal s file to =
    first_reason (reason_if s.pager.store.tail.spent refusals.Broken
    ∷ reason_if (nat_lt s.most (pages_put s.table (log_restaged s.table s.lengths file to [] s.pager.staged)))
    refusals.NoFrame ∷ [])

-- The first reason against setting a file's length, in this order: there is no such file; the file's home blocks do not
-- suffice. Then, if the length differs from the present one, the reasons against a change.
abbrev pub log_length_refusal : {D : Type 0} → LogFilesState D → ℕ → ℕ → Option Refusal
log_length_refusal s file to =
    first_reason (reason_if (nat_le (length s.lengths) file) refusals.NoFile
    ∷ reason_if (nat_lt (slice_index_or (capacities_in (table_of s.table)) file 0) to) refusals.Einval
    ∷ (if to == file_length s.lengths file then None else new_log_length_refusal s file to) ∷ [])

-- Whether setting the length makes a device call. It does if the file grows from inside a page that is not staged.
abbrev pub reads_log_last : {D : Type 0} → LogFilesState D → ℕ → ℕ → Bool
reads_log_last s file to =
    nat_lt (file_length s.lengths file) to && not (file_length s.lengths file % 4096 == 0)
    && is_none (bytes_in s.pager.staged (log_home_of s.table (end_page file (file_length s.lengths file))))

-- Holds if setting a length may fail with this refusal: the first reason against it. Without a reason, a change may
-- fail for lack of memory, or because its device call fails.
abbrev pub RefusesLogLength : {D : Type 0} → LogFilesState D → ℕ → ℕ → Refusal → Type 0
RefusesLogLength s file to refusals.OutOfMemory =
    (log_length_refusal s file to ≡ None) × ((to == file_length s.lengths file) ≡ false)
RefusesLogLength s file to refusals.Device =
    (log_length_refusal s file to ≡ None) × (reads_log_last s file to ≡ true)
RefusesLogLength s file to why = log_length_refusal s file to ≡ Some why

-- The number of device calls that setting a length makes.
abbrev pub log_length_calls : {D : Type 0} → LogFilesState D → ℕ → ℕ → ℕ
log_length_calls s file to = if is_none (log_length_refusal s file to) && reads_log_last s file to then 1 else 0

-- The bytes that callers see in the page in which a file ends, if the commits left these contents.
abbrev pub last_log_page : {D : Type 0} → LogFilesState D → (ℕ → List ℕ) → ℕ → List ℕ
last_log_page s contents file =
    contents_put contents s.pager.staged (log_home_of s.table (end_page file (file_length s.lengths file)))

-- The state after a file's length changed, if `last` were the bytes of the page in which it ended, and `device` is the
-- device afterwards.
abbrev pub log_resized_to : {D : Type 0} → LogFilesState D → ℕ → ℕ → List ℕ → D → LogFilesState D
log_resized_to s file to last device = record s {
  lengths = slice_set s.lengths file to;
  pager = record s.pager {
    staged = log_restaged s.table s.lengths file to last s.pager.staged;
    device = device;
  };
}

-- The state after setting a file's length. Nothing changes if the file already had this length.
abbrev pub after_log_length : {D : Type 0} → LogFilesState D → ℕ → ℕ → List ℕ → D → LogFilesState D
after_log_length s file to last device =
    if to == file_length s.lengths file then s else log_resized_to s file to last device
