-- What a request of a volume with a log does.
use Rattle.std.specs.Prelude.{ℕ, ◌≡◌, List, None, Bool, Result, Ok, Err}
use Rattle.page_entry.specs.declared.numbers.FilePage.{FilePage}
use Rattle.page_entry.specs.declared.refusal.Refusal.{Refusal}
use Rattle.deferred_disk.specs.Deferred.{IsSuppliedWell}
use Rattle.recovery.specs.Counts.{Rises}
use Rattle.pager.specs.State.{up_to_end}
use Rattle.pager.specs.Calls.{page_refusal}
use Rattle.log_recovery.specs.Reading.{ReadsAlone}
use Rattle.log_pager.specs.Pager.{IsPagerOver, contents_put}
use Rattle.log_files.specs.State.{log_home_of, on_device}
use Rattle.log_files.specs.Calls.{RefusesPageRead, page_read_calls, log_put_refusal, RefusesPagePut, after_page_put}
use Rattle.log_files.specs.Calls.{log_length_refusal, RefusesLogLength, log_length_calls, last_log_page}
use Rattle.log_files.specs.Calls.{after_log_length}
use Rattle.embedded.specs.declared.reading.Unread.{Unread}
use Rattle.embedded.specs.Reading.{ReportsWanted, pager_refusal}
use Rattle.embedded.specs.Recorded.{deferred_disk}
use Rattle.embedded_log.specs.State.{EmbeddedLogState, with_files, with_log_mark}
use Rattle.embedded_log.specs.Steps.{CommitsLog, StopsLogCommit, WritesCommitsHome, StopsSteps}

-- ---- pages and lengths

-- The disk of an open volume made exactly this many calls, which were all reads.
abbrev pub OnlyReadsLog : EmbeddedLogState → ℕ → EmbeddedLogState → Type 0
OnlyReadsLog e calls e' =
    ReadsAlone deferred_disk e.files.pager.device e'.files.pager.device
    × Rises calls e.files.pager.device.calls e'.files.pager.device.calls

-- These bytes of a page were read, or the request was refused.
abbrev pub AnswersLogPage : EmbeddedLogState → FilePage → Result (List ℕ) Unread → EmbeddedLogState → Type 0
AnswersLogPage e page (Ok bytes) e' =
    (page_refusal e.files.lengths page ≡ None)
    × ((contents : ℕ → List ℕ) → IsSuppliedWell e.files.pager.device → IsPagerOver deferred_disk e.files.pager contents
    → bytes ≡ up_to_end e.files.lengths page
    (contents_put contents e.files.pager.staged (log_home_of e.files.table page)))
AnswersLogPage e page (Err why) e' =
    ReportsWanted e'.files.pager.device.wanted why × RefusesPageRead e.files page (pager_refusal why)

-- The request is answered, and only the disk changed, by reads.
abbrev pub ReadsLogPage : EmbeddedLogState → FilePage → Result (List ℕ) Unread → EmbeddedLogState → Type 0
ReadsLogPage e page outcome e' =
    AnswersLogPage e page outcome e' × OnlyReadsLog e (page_read_calls e.files page) e'
    × (e' ≡ with_files e (on_device e.files e'.files.pager.device))

-- A whole page was written, or the request was refused.
abbrev pub WritesLogPage : EmbeddedLogState → FilePage → List ℕ → Result (Unit {0}) Refusal → EmbeddedLogState → Type 0
WritesLogPage e page bytes (Ok done) e' =
    (log_put_refusal e.files page ≡ None) × (e' ≡ with_files e (after_page_put e.files page bytes))
WritesLogPage e page bytes (Err why) e' = RefusesPagePut e.files page why × (e' ≡ e)

-- The file's length was set. If it grew from inside a page, that page had the bytes that the files have there. It may
-- have had others if a block was supplied wrongly. Or the request was refused, and only the disk changed.
abbrev pub AnswersLogLength : EmbeddedLogState → (file length : ℕ) → Result (Unit {0}) Unread → EmbeddedLogState
    → Type 0
AnswersLogLength e file length (Ok done) e' =
    (log_length_refusal e.files file length ≡ None)
    × ((contents : ℕ → List ℕ) → IsSuppliedWell e.files.pager.device → IsPagerOver deferred_disk e.files.pager contents
    → e'.files ≡ after_log_length e.files file length (last_log_page e.files contents file) e'.files.pager.device)
    × ((last : List ℕ) × (e'.files ≡ after_log_length e.files file length last e'.files.pager.device))
AnswersLogLength e file length (Err why) e' =
    (e'.files ≡ on_device e.files e'.files.pager.device) × ReportsWanted e'.files.pager.device.wanted why
    × RefusesLogLength e.files file length (pager_refusal why)

-- The request is answered, and the disk made only reads.
abbrev pub SetsLogLength : EmbeddedLogState → (file length : ℕ) → Result (Unit {0}) Unread → EmbeddedLogState → Type 0
SetsLogLength e file length outcome e' =
    AnswersLogLength e file length outcome e' × OnlyReadsLog e (log_length_calls e.files file length) e'
    × (e' ≡ with_files e e'.files)

-- ---- commits

-- A commit with this mark was made. Or it stopped: it wants a block, or it was refused. The steps that were made
-- remain.
abbrev pub MakesLogCommit : EmbeddedLogState → Result ℕ Unread → EmbeddedLogState → Type 0
MakesLogCommit e (Ok mark) e' = CommitsLog e.files mark e'.files × (e' ≡ with_log_mark e mark e'.files)
MakesLogCommit e (Err why) e' = StopsLogCommit e.files why e'.files × (e' ≡ with_files e e'.files)

-- Steps were made, and `left` is whether more are left. Or they stopped: a step wants a block, or was refused.
abbrev pub AnswersLogSteps : ℕ → EmbeddedLogState → Result Bool Unread → EmbeddedLogState → Type 0
AnswersLogSteps most e (Ok left) e' = WritesCommitsHome most e.files left e'.files
AnswersLogSteps most e (Err why) e' = StopsSteps most e.files why e'.files

abbrev pub WritesLogHome : ℕ → EmbeddedLogState → Result Bool Unread → EmbeddedLogState → Type 0
WritesLogHome most e outcome e' = AnswersLogSteps most e outcome e' × (e' ≡ with_files e e'.files)
