-- What is answered where a page is read.
use Rattle.std.proofs.Common.{◌≡◌, ℕ, ℤ, true, false, List, sym}
use Rattle.std.proofs.Common.{Result, Ok, Err, OnOk, OnErr}
use Rattle.std.proofs.lemmas.Bool.{true≢false}
use Rattle.std.specs.Prelude.{is_ok}
use Rattle.page_entry.specs.declared.numbers.FilePage.{FilePage}
use Rattle.embedded.specs.declared.reading.Unread.{Unread}
use Rattle.famsync_core.specs.Codes.{reading_code, wanted_block}
use Rattle.famsync_core.specs.Held.{is_block}
use Rattle.famsync_core.specs.Requests.{bytes_read, IsRead, AnswersRead}
use Rattle.famsync_core.specs.declared.volume.OpenVolume.{OpenVolume}
use Rattle.famsync_core.proofs.Cases.{on_true}

-- the bytes that are answered are those that were read, or if none were, they stay
abbrev pub Copied : Result (Unit {0}) Unread → (old buffer new : List ℕ) → Type 0
Copied outcome old buffer new = OnOk outcome (new ≡ buffer) × OnErr outcome (new ≡ old)

pub copied_some : (outcome : Result (Unit {0}) Unread) (old buffer new : List ℕ) → is_ok outcome ≡ true → new ≡ buffer
    → Copied outcome old buffer new
copied_some (Ok done) old buffer new is same = (same, tt)
copied_some (Err why) old buffer new is same = absurd (true≢false (sym is))

pub copied_none : (outcome : Result (Unit {0}) Unread) (old buffer new : List ℕ) → is_ok outcome ≡ false → new ≡ old
    → Copied outcome old buffer new
copied_none (Ok done) old buffer new is same = absurd (true≢false is)
copied_none (Err why) old buffer new is same = (tt, same)

pub answers_read : (v v' : OpenVolume) (page : FilePage) (outcome : Result (Unit {0}) Unread)
    (old buffer new : List ℕ) (code : ℤ) (before told : ℕ) → is_block old ≡ true → code ≡ reading_code outcome
    → told ≡ wanted_block outcome before → Copied outcome old buffer new → IsRead v page (bytes_read outcome buffer) v'
    → AnswersRead v page old new code before told v'
answers_read v v' page (Ok done) old buffer new code before told is same is_told copied read =
    on_true (is_block old) _ _ is (Ok buffer, same, is_told, copied.0, read)
answers_read v v' page (Err why) old buffer new code before told is same is_told copied read =
    on_true (is_block old) _ _ is (Err why, same, is_told, copied.1, read)
