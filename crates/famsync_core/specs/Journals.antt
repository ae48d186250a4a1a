-- What a request of a volume with journals does.
use Rattle.std.specs.Prelude.{ℕ, ◌≡◌, ◌⊎◌, List, Some, None, Bool, Result, Ok, Err}
use Rattle.page_entry.specs.declared.numbers.FilePage.{FilePage}
use Rattle.page_entry.specs.declared.refusal.Refusal.{Refusal}
use Rattle.page_entry.specs.declared.refusal.Refusal.TheVariants as refusals
use Rattle.device.specs.Memory.{seen_of}
use Rattle.deferred_disk.specs.Deferred.{as_memory, carried_moment, IsSuppliedWell}
use Rattle.journal.specs.Pages.{home_of}
use Rattle.recovery.specs.Counts.{Rises}
use Rattle.recovery.specs.Reading.{IsOnlyRead}
use Rattle.pager.specs.State.{current_in, up_to_end}
use Rattle.pager.specs.Calls.{RefusesPut, put_refusal, after_put, page_refusal, read_calls}
use Rattle.pager.specs.Calls.{RefusesSetLength, set_length_refusal, after_length, last_page, length_calls}
use Rattle.embedded.specs.declared.reading.Unread.{Unread}
use Rattle.embedded.specs.declared.reading.Unread.TheVariants.{Wanted, Refused}
use Rattle.embedded.specs.Embedded.{EmbeddedState, over_device, with_pager, with_mark}
use Rattle.embedded.specs.Reading.{ReportsWanted, pager_refusal}
use Rattle.embedded.specs.Recorded.{deferred_disk}
use Rattle.embedded.specs.Steps.{Commits, RefusesCommit, WritesOut, RefusesSteps}

-- ---- pages and lengths

-- The disk of an open volume made exactly this many calls, which were all reads.
abbrev pub OnlyReads : EmbeddedState → ℕ → EmbeddedState → Type 0
OnlyReads e calls e' =
    IsOnlyRead deferred_disk e.pager.device e'.pager.device
    × Rises calls e.pager.device.calls e'.pager.device.calls
    × (carried_moment e'.pager.device ≡ carried_moment e.pager.device)

-- These bytes of a page were read, or the request was refused.
abbrev pub AnswersPage : EmbeddedState → FilePage → Result (List ℕ) Unread → EmbeddedState → Type 0
AnswersPage e page (Ok bytes) e' =
    (page_refusal e.pager.lengths page ≡ None)
    × (IsSuppliedWell e.pager.device → bytes ≡ up_to_end e.pager.lengths page (current_in e.pager.staged e.pager.records
    (seen_of (as_memory e.pager.device)) (home_of e.pager.table page)))
AnswersPage e page (Err why) e' =
    ReportsWanted e'.pager.device.wanted why
    × ((page_refusal e.pager.lengths page ≡ Some (pager_refusal why))
    ⊎ ((pager_refusal why ≡ refusals.Device) × (page_refusal e.pager.lengths page ≡ None)))

-- The request is answered, and only the disk changed, by reads.
abbrev pub ReadsPage : EmbeddedState → FilePage → Result (List ℕ) Unread → EmbeddedState → Type 0
ReadsPage e page outcome e' =
    AnswersPage e page outcome e' × OnlyReads e (read_calls e.pager page) e'
    × (e' ≡ with_pager e (over_device e.pager e'.pager.device))

-- A whole page was written, or the request was refused.
abbrev pub WritesPage : EmbeddedState → FilePage → List ℕ → Result (Unit {0}) Refusal → EmbeddedState → Type 0
WritesPage e page bytes (Ok done) e' =
    (put_refusal e.pager page ≡ None) × (e' ≡ with_pager e (after_put e.pager page bytes))
WritesPage e page bytes (Err why) e' = RefusesPut e.pager page why × (e' ≡ e)

-- The file's length was set, or the request was refused and only the disk changed.
abbrev pub AnswersLength : EmbeddedState → (file length : ℕ) → Result (Unit {0}) Unread → EmbeddedState → Type 0
AnswersLength e file length (Ok done) e' =
    (set_length_refusal e.pager file length ≡ None)
    × (IsSuppliedWell e.pager.device → e'.pager ≡ after_length e.pager file length
    (last_page e.pager (seen_of (as_memory e.pager.device)) file) e'.pager.device)
AnswersLength e file length (Err why) e' =
    (e'.pager ≡ over_device e.pager e'.pager.device) × ReportsWanted e'.pager.device.wanted why
    × RefusesSetLength e.pager file length (pager_refusal why)

-- The request is answered, and the disk made only reads.
abbrev pub SetsLength : EmbeddedState → (file length : ℕ) → Result (Unit {0}) Unread → EmbeddedState → Type 0
SetsLength e file length outcome e' =
    AnswersLength e file length outcome e' × OnlyReads e (length_calls e.pager file length) e'
    × (e' ≡ with_pager e e'.pager)

-- ---- commits

-- A commit with this mark was made, or was refused. It never wants a block.
abbrev pub MakesCommit : EmbeddedState → Result ℕ Unread → EmbeddedState → Type 0
MakesCommit e (Ok mark) e' = Commits e.pager mark e'.pager × (e' ≡ with_mark e mark e'.pager)
MakesCommit e (Err (Wanted block)) e' = ⊥
MakesCommit e (Err (Refused why)) e' = RefusesCommit e.pager why e'.pager × (e' ≡ with_pager e e'.pager)

-- Steps were made, and `left` is whether more are left. Or they were refused. They never want a block.
abbrev pub AnswersSteps : ℕ → EmbeddedState → Result Bool Unread → EmbeddedState → Type 0
AnswersSteps most e (Ok left) e' = WritesOut most e.pager left e'.pager
AnswersSteps most e (Err (Wanted block)) e' = ⊥
AnswersSteps most e (Err (Refused why)) e' = RefusesSteps most e.pager why e'.pager

abbrev pub WritesHome : ℕ → EmbeddedState → Result Bool Unread → EmbeddedState → Type 0
WritesHome most e outcome e' = AnswersSteps most e outcome e' × (e' ≡ with_pager e e'.pager)
