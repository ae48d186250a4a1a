-- What a volume with a log does, by what its call ensures.
use Rattle.std.proofs.Common.{◌≡◌, ℕ, Bool, List, None, Result, Ok, Err, OnOk, OnErr, IfOk, IfErr}
use Rattle.page_entry.specs.declared.numbers.FilePage.{FilePage}
use Rattle.page_entry.specs.declared.refusal.Refusal.{Refusal}
use Rattle.deferred_disk.specs.Deferred.{IsSuppliedWell}
use Rattle.pager.specs.State.{up_to_end}
use Rattle.pager.specs.Calls.{page_refusal}
use Rattle.log_pager.specs.Pager.{IsPagerOver, contents_put}
use Rattle.log_files.specs.State.{log_home_of, on_device}
use Rattle.log_files.specs.Calls.{RefusesPageRead, log_put_refusal, RefusesPagePut, after_page_put}
use Rattle.log_files.specs.Calls.{log_length_refusal, RefusesLogLength, last_log_page, after_log_length}
use Rattle.embedded.specs.declared.reading.Unread.{Unread}
use Rattle.embedded.specs.Reading.{ReportsWanted, pager_refusal}
use Rattle.embedded.specs.Recorded.{deferred_disk}
use Rattle.embedded_log.specs.State.{EmbeddedLogState, with_files, with_log_mark}
use Rattle.embedded_log.specs.Steps.{CommitsLog, StopsLogCommit, WritesCommitsHome, StopsSteps}
use Rattle.famsync_core.specs.Logs.{AnswersLogPage, WritesLogPage, AnswersLogLength, MakesLogCommit, AnswersLogSteps}
use Rattle.famsync_core.specs.Requests.{bytes_read}

-- the files are over their device and have these contents
abbrev Over : EmbeddedLogState → (ℕ → List ℕ) → Type 0
Over e contents = IsPagerOver deferred_disk e.files.pager contents

pub answers_log_page : (e e' : EmbeddedLogState) (page : FilePage) (r : Result (Unit {0}) Unread) (block : List ℕ)
    → OnOk r (page_refusal e.files.lengths page ≡ None)
    → ((contents : ℕ → List ℕ) → IsSuppliedWell e.files.pager.device → Over e contents
    → OnOk r (block ≡ up_to_end e.files.lengths page
    (contents_put contents e.files.pager.staged (log_home_of e.files.table page))))
    → IfErr r (λ why. RefusesPageRead e.files page (pager_refusal why))
    → IfErr r (λ why. ReportsWanted e'.files.pager.device.wanted why) → AnswersLogPage e page (bytes_read r block) e'
answers_log_page e e' page (Ok done) block there bytes refused wanted = (there, bytes)
answers_log_page e e' page (Err why) block there bytes refused wanted = (wanted, refused)

pub writes_log_page : (e e' : EmbeddedLogState) (page : FilePage) (bytes : List ℕ) (r : Result (Unit {0}) Refusal)
    → OnOk r (log_put_refusal e.files page ≡ None) → OnOk r (e' ≡ with_files e (after_page_put e.files page bytes))
    → IfErr r (RefusesPagePut e.files page) → OnErr r (e' ≡ e) → WritesLogPage e page bytes r e'
writes_log_page e e' page bytes (Ok done) allowed put refused same = (allowed, put)
writes_log_page e e' page bytes (Err why) allowed put refused same = (refused, same)

pub answers_log_length : (e e' : EmbeddedLogState) (file length : ℕ) (r : Result (Unit {0}) Unread)
    → OnOk r (log_length_refusal e.files file length ≡ None)
    → ((contents : ℕ → List ℕ) → IsSuppliedWell e.files.pager.device → Over e contents → OnOk r
    (e'.files ≡ after_log_length e.files file length (last_log_page e.files contents file) e'.files.pager.device))
    → OnOk r ((last : List ℕ) × (e'.files ≡ after_log_length e.files file length last e'.files.pager.device))
    → OnErr r (e'.files ≡ on_device e.files e'.files.pager.device)
    → IfErr r (λ why. RefusesLogLength e.files file length (pager_refusal why))
    → IfErr r (λ why. ReportsWanted e'.files.pager.device.wanted why) → AnswersLogLength e file length r e'
answers_log_length e e' file length (Ok done) ok set some same refused wanted = (ok, set, some)
answers_log_length e e' file length (Err why) ok set some same refused wanted = (same, wanted, refused)

pub makes_log_commit : (e e' : EmbeddedLogState) (r : Result ℕ Unread)
    → IfOk r (λ mark. CommitsLog e.files mark e'.files) → IfOk r (λ mark. e' ≡ with_log_mark e mark e'.files)
    → IfErr r (λ why. StopsLogCommit e.files why e'.files) → OnErr r (e' ≡ with_files e e'.files)
    → MakesLogCommit e r e'
makes_log_commit e e' (Ok mark) commits marked stopped unmarked = (commits, marked)
makes_log_commit e e' (Err why) commits marked stopped unmarked = (stopped, unmarked)

pub answers_log_steps : (e e' : EmbeddedLogState) (most : ℕ) (r : Result Bool Unread)
    → IfOk r (λ left. WritesCommitsHome most e.files left e'.files)
    → IfErr r (λ why. StopsSteps most e.files why e'.files) → AnswersLogSteps most e r e'
answers_log_steps e e' most (Ok left) steps stopped = steps
answers_log_steps e e' most (Err why) steps stopped = stopped
