-- What each call does, and what it returns.
use Rattle.std.specs.Prelude.{ℕ, ℤ, ◌≡◌, ◌⊎◌, ◌&&◌, nat_le, List, length, Bool, Option, Some, None, MatchBool}
use Rattle.std.specs.Prelude.{Result, Ok, Err}
use Rattle.std.specs.Result.{result_unwrap_or}
use Rattle.page_entry.specs.declared.numbers.FilePage.{FilePage}
use Rattle.page_entry.specs.declared.refusal.Refusal.{Refusal}
use Rattle.device.specs.Memory.{DiskChange}
use Rattle.device.specs.Memory.DiskChange.{write, sync}
use Rattle.embedded.specs.declared.reading.Unread.{Unread}
use Rattle.embedded.specs.Embedded.{EmbeddedState}
use Rattle.embedded_log.specs.State.{EmbeddedLogState}
use Rattle.famsync_core.specs.Codes.{ok_code, argument_code, memory_code, none_code}
use Rattle.famsync_core.specs.Codes.{outcome_code, reading_code, steps_code, wanted_block}
use Rattle.famsync_core.specs.Held.{HeldVolume, is_block, has_block, needs_no, waiting_in}
use Rattle.famsync_core.specs.Held.{after_supplied, after_forgotten, after_calls_made}
use Rattle.famsync_core.specs.Journals.{ReadsPage, WritesPage, SetsLength, MakesCommit, WritesHome}
use Rattle.famsync_core.specs.Logs.{ReadsLogPage, WritesLogPage, SetsLogLength, MakesLogCommit, WritesLogHome}
use Rattle.famsync_core.specs.declared.volume.OpenVolume.{OpenVolume}
use Rattle.famsync_core.specs.declared.volume.OpenVolume.TheVariants.{Journals, Log}

-- ---- an open volume

-- A request on a volume, defined for each kind. The volume's kind doesn't change.
abbrev pub ByKind : (EmbeddedState → EmbeddedState → Type 0) → (EmbeddedLogState → EmbeddedLogState → Type 0)
    → OpenVolume → OpenVolume → Type 0
ByKind journals log (Journals e) (Journals e') = journals e e'
ByKind journals log (Log e) (Log e') = log e e'
ByKind journals log (Journals e) (Log e') = ⊥
ByKind journals log (Log e) (Journals e') = ⊥

-- the result of reading into a block: its bytes, or why none were read
abbrev pub bytes_read : Result (Unit {0}) Unread → List ℕ → Result (List ℕ) Unread
bytes_read (Ok done) block = Ok block
bytes_read (Err why) block = Err why

-- A page is read; a page is written; a length is set.
abbrev pub IsRead : OpenVolume → FilePage → Result (List ℕ) Unread → OpenVolume → Type 0
IsRead v page outcome v' =
    ByKind (λ e e'. ReadsPage e page outcome e') (λ e e'. ReadsLogPage e page outcome e') v v'

abbrev pub IsWritten : OpenVolume → FilePage → List ℕ → Result (Unit {0}) Refusal → OpenVolume → Type 0
IsWritten v page bytes outcome v' =
    ByKind (λ e e'. WritesPage e page bytes outcome e') (λ e e'. WritesLogPage e page bytes outcome e') v v'

abbrev pub IsLengthSet : OpenVolume → (file length : ℕ) → Result (Unit {0}) Unread → OpenVolume → Type 0
IsLengthSet v file length outcome v' =
    ByKind (λ e e'. SetsLength e file length outcome e') (λ e e'. SetsLogLength e file length outcome e') v v'

-- A commit is made; steps are made.
abbrev pub IsCommitted : OpenVolume → Result ℕ Unread → OpenVolume → Type 0
IsCommitted v outcome v' = ByKind (λ e e'. MakesCommit e outcome e') (λ e e'. MakesLogCommit e outcome e') v v'

abbrev pub IsWrittenHome : ℕ → OpenVolume → Result Bool Unread → OpenVolume → Type 0
IsWrittenHome most v outcome v' =
    ByKind (λ e e'. WritesHome most e outcome e') (λ e e'. WritesLogHome most e outcome e') v v'

-- ---- the replies

-- The buffer must have 4,096 bytes. If no page was read, its bytes don't change.
abbrev pub AnswersRead : OpenVolume → FilePage → (old new : List ℕ) → ℤ → (before wanted : ℕ) → OpenVolume → Type 0
AnswersRead v page old new code before wanted v' = MatchBool (is_block old)
    ((outcome : Result (List ℕ) Unread) × (code ≡ reading_code outcome) × (wanted ≡ wanted_block outcome before)
    × (new ≡ result_unwrap_or outcome old) × IsRead v page outcome v')
    ((code ≡ argument_code) × (new ≡ old) × (wanted ≡ before) × (v' ≡ v))

abbrev pub AnswersWrite : OpenVolume → FilePage → List ℕ → ℤ → OpenVolume → Type 0
AnswersWrite v page bytes code v' = MatchBool (is_block bytes)
    ((outcome : Result (Unit {0}) Refusal) × (code ≡ outcome_code outcome) × IsWritten v page bytes outcome v')
    ((code ≡ argument_code) × (v' ≡ v))

abbrev pub AnswersSetLength : OpenVolume → (file length : ℕ) → ℤ → (before wanted : ℕ) → OpenVolume → Type 0
AnswersSetLength v file length code before wanted v' =
    (outcome : Result (Unit {0}) Unread) × (code ≡ reading_code outcome) × (wanted ≡ wanted_block outcome before)
    × IsLengthSet v file length outcome v'

-- If nothing was committed, the mark that was there before doesn't change.
abbrev pub AnswersCommit : OpenVolume → ℤ → (before mark before' wanted : ℕ) → OpenVolume → Type 0
AnswersCommit v code before mark before' wanted v' =
    (outcome : Result ℕ Unread) × (code ≡ reading_code outcome) × (wanted ≡ wanted_block outcome before')
    × (mark ≡ result_unwrap_or outcome before) × IsCommitted v outcome v'

abbrev pub AnswersWriteOut : ℕ → OpenVolume → ℤ → (before wanted : ℕ) → OpenVolume → Type 0
AnswersWriteOut most v code before wanted v' =
    (outcome : Result Bool Unread) × (code ≡ steps_code outcome) × (wanted ≡ wanted_block outcome before)
    × IsWrittenHome most v outcome v'

-- ---- the host

-- A block was supplied, or memory for it was refused. The argument is invalid if there aren't 4,096 bytes, or the disk
-- has no such block.
abbrev pub AnswersSupply : HeldVolume → ℕ → List ℕ → ℤ → HeldVolume → Type 0
AnswersSupply held block bytes code held' = MatchBool (is_block bytes && has_block held block)
    (((code ≡ ok_code) × (held' ≡ after_supplied block bytes held)) ⊎ ((code ≡ memory_code) × (held' ≡ held)))
    ((code ≡ argument_code) × (held' ≡ held))

-- A block was forgotten, if the host needn't keep it.
abbrev pub AnswersForget : HeldVolume → ℕ → ℤ → HeldVolume → Type 0
AnswersForget held block code held' = MatchBool (has_block held block)
    (MatchBool (needs_no held block) ((code ≡ ok_code) × (held' ≡ after_forgotten block held))
    ((code ≡ none_code) × (held' ≡ held)))
    ((code ≡ argument_code) × (held' ≡ held))

-- A waiting call as numbers: its kind, and the offset and length of a write.
abbrev pub AnswersCall : Option DiskChange → ℤ → (kind kind' offset offset' size size' : ℕ) → Type 0
AnswersCall (Some (write at bytes)) code kind kind' offset offset' size size' =
    (code ≡ ok_code) × (kind' ≡ 1) × (offset' ≡ at) × (size' ≡ length bytes)
AnswersCall (Some sync) code kind kind' offset offset' size size' =
    (code ≡ ok_code) × (kind' ≡ 2) × (offset' ≡ offset) × (size' ≡ size)
AnswersCall None code kind kind' offset offset' size size' =
    (code ≡ none_code) × (kind' ≡ kind) × (offset' ≡ offset) × (size' ≡ size)

-- The host made this many of the oldest calls, if at least this many waited.
abbrev pub AnswersMade : HeldVolume → (count : ℕ) → ℤ → HeldVolume → Type 0
AnswersMade held count code held' = MatchBool (nat_le count (waiting_in held))
    ((code ≡ ok_code) × (held' ≡ after_calls_made count held))
    ((code ≡ argument_code) × (held' ≡ held))
