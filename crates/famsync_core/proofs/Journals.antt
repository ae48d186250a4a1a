-- What a volume with journals does, by what its call ensures.
use Rattle.std.proofs.Common.{◌≡◌, ◌⊎◌, ℕ, List, Some, None, Result, Ok, Err, OnOk, OnErr, IfErr}
use Rattle.page_entry.specs.declared.numbers.FilePage.{FilePage}
use Rattle.page_entry.specs.declared.refusal.Refusal.{Refusal}
use Rattle.page_entry.specs.declared.refusal.Refusal.TheVariants as refusals
use Rattle.device.specs.Memory.{seen_of}
use Rattle.deferred_disk.specs.Deferred.{as_memory, IsSuppliedWell}
use Rattle.journal.specs.Pages.{home_of}
use Rattle.pager.specs.State.{current_in, up_to_end}
use Rattle.pager.specs.Calls.{RefusesPut, put_refusal, after_put, page_refusal}
use Rattle.pager.specs.Calls.{RefusesSetLength, set_length_refusal, after_length, last_page}
use Rattle.embedded.specs.declared.reading.Unread.{Unread}
use Rattle.embedded.specs.Embedded.{EmbeddedState, over_device, with_pager}
use Rattle.embedded.specs.Reading.{ReportsWanted, pager_refusal}
use Rattle.famsync_core.specs.Journals.{AnswersPage, AnswersLength, WritesPage}
use Rattle.famsync_core.specs.Requests.{bytes_read}

pub answers_page : (e e' : EmbeddedState) (page : FilePage) (r : Result (Unit {0}) Unread) (block : List ℕ)
    → OnOk r (page_refusal e.pager.lengths page ≡ None)
    → (IsSuppliedWell e.pager.device → OnOk r (block ≡ up_to_end e.pager.lengths page
    (current_in e.pager.staged e.pager.records (seen_of (as_memory e.pager.device)) (home_of e.pager.table page))))
    → IfErr r (λ why. (page_refusal e.pager.lengths page ≡ Some (pager_refusal why))
    ⊎ ((pager_refusal why ≡ refusals.Device) × (page_refusal e.pager.lengths page ≡ None)))
    → IfErr r (λ why. ReportsWanted e'.pager.device.wanted why) → AnswersPage e page (bytes_read r block) e'
answers_page e e' page (Ok done) block there bytes refused wanted = (there, bytes)
answers_page e e' page (Err why) block there bytes refused wanted = (wanted, refused)

pub writes_page : (e e' : EmbeddedState) (page : FilePage) (bytes : List ℕ) (r : Result (Unit {0}) Refusal)
    → OnOk r (put_refusal e.pager page ≡ None) → OnOk r (e' ≡ with_pager e (after_put e.pager page bytes))
    → IfErr r (RefusesPut e.pager page) → OnErr r (e' ≡ e) → WritesPage e page bytes r e'
writes_page e e' page bytes (Ok done) allowed put refused same = (allowed, put)
writes_page e e' page bytes (Err why) allowed put refused same = (refused, same)

pub answers_length : (e e' : EmbeddedState) (file length : ℕ) (r : Result (Unit {0}) Unread)
    → OnOk r (set_length_refusal e.pager file length ≡ None)
    → (IsSuppliedWell e.pager.device → OnOk r (e'.pager ≡ after_length e.pager file length
    (last_page e.pager (seen_of (as_memory e.pager.device)) file) e'.pager.device))
    → OnErr r (e'.pager ≡ over_device e.pager e'.pager.device)
    → IfErr r (λ why. RefusesSetLength e.pager file length (pager_refusal why))
    → IfErr r (λ why. ReportsWanted e'.pager.device.wanted why) → AnswersLength e file length r e'
answers_length e e' file length (Ok done) ok set same refused wanted = (ok, set)
answers_length e e' file length (Err why) ok set same refused wanted = (same, wanted, refused)
