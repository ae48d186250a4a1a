-- A part of a disk's content, after writes.
use Rattle.std.proofs.Common.{◌≡◌, ◌⊎◌, inl, inr, ◌<◌, ◌≤◌, ⊎_elim, ℕ, ◌+◌, ◌-◌, min, max, List, [], ◌∷◌, length}
use Rattle.std.proofs.Common.{get_or, take, drop, refl, sym, ◌∙◌, ap, subst, arith, length-take, length-drop}
use Rattle.std.proofs.lemmas.Bool.{cases_lt}
use Rattle.std.proofs.lemmas.List.{ext_get_or, get_or-take, get_or-drop}
use Rattle.std.specs.Prelude.{slice_range}
use Rattle.device.specs.Device.{written}
use Rattle.device.specs.Memory.{DiskChange, content_after}
use Rattle.device.specs.Memory.DiskChange.{write, sync}
use Rattle.device.specs.declared.log.Logged.{Logged}
use Rattle.device.specs.inside.Logged.{change_of, changes_of}
use Rattle.device.specs.inside.Replay.{AreWithin}
use Rattle.device.proofs.Replay.{changes_of-split, changes_of-more, within_older, within_at}
use Rattle.device.proofs.Ranges.{length-written, written_before, written_within, written_after}

pub length-content_after : (first : List ℕ) (changes : List DiskChange) → AreWithin (length first) changes
    → length (content_after first changes) ≡ length first
length-content_after first [] within = refl
length-content_after first (write at bytes ∷ older) within =
    let before = length-content_after first older within.1 in
    length-written (content_after first older) at bytes (omega (arith, before, within.0)) ∙ before
length-content_after first (sync ∷ older) within = length-content_after first older within

-- a place of a part
pub part_at : (s : List ℕ) (a b i : ℕ) → a + i < b → get_or (slice_range s a b) i 0 ≡ get_or s (a + i) 0
part_at s a b i lt = get_or-take (b - a) (drop a s) i 0 (omega (arith, lt)) ∙ get_or-drop a s i 0

pub length-part : (s : List ℕ) (a b : ℕ) → a ≤ b → b ≤ length s → length (slice_range s a b) ≡ b - a
length-part s a b le fits = omega (arith, length-take (b - a) (drop a s), length-drop a s)

-- a place of a part, after a write that doesn't reach it
apart : (seen bytes : List ℕ) (at n from i : ℕ) → at + n ≤ length seen → from + length bytes ≤ length seen → i < n
    → (at + i < from) ⊎ (from + length bytes ≤ at + i)
    → get_or (slice_range (written seen from bytes) at (at + n)) i 0 ≡ get_or (slice_range seen at (at + n)) i 0
apart seen bytes at n from i fits inside lt where_is =
    part_at (written seen from bytes) at (at + n) i (omega (arith, lt))
    ∙ ⊎_elim (λ (before : at + i < from). written_before seen from bytes (at + i) inside before)
    (λ (past : from + length bytes ≤ at + i). written_after seen from bytes (at + i) inside past) where_is
    ∙ sym (part_at seen at (at + n) i (omega (arith, lt)))

-- a write that doesn't reach a part
pub unpatched : (seen bytes : List ℕ) (at n from start end : ℕ) → at + n ≤ length seen
    → from + length bytes ≤ length seen → start ≡ max at from → end ≡ min (at + n) (from + length bytes) → end ≤ start
    → slice_range seen at (at + n) ≡ slice_range (written seen from bytes) at (at + n)
unpatched seen bytes at n from start end fits inside starts ends none =
    let long = length-written seen from bytes inside in
    let whole = length-part seen at (at + n) (omega arith) fits in
    ext_get_or 0 (slice_range seen at (at + n)) (slice_range (written seen from bytes) at (at + n)) (whole
    ∙ sym (length-part (written seen from bytes) at (at + n) (omega arith) (omega (arith, long, fits)))) (λ i lt.
    sym (apart seen bytes at n from i fits inside (omega (arith, lt, whole)) (⊎_elim
    (λ (before : at + i < from). inl before)
    (λ (after : from ≤ at + i). inr (omega (arith, after, starts, ends, none, lt, whole)))
    (cases_lt (at + i) from))))

-- a write, of which a part gets what it has in common with it
pub patched : (seen bytes : List ℕ) (at n from start end : ℕ) → at + n ≤ length seen → from + length bytes ≤ length seen
    → start ≡ max at from → end ≡ min (at + n) (from + length bytes) → start < end
    → written (slice_range seen at (at + n)) (start - at) (slice_range bytes (start - from) (end - from))
    ≡ slice_range (written seen from bytes) at (at + n)
patched seen bytes at n from start end fits inside starts ends some =
    let part = slice_range seen at (at + n) in
    let common = slice_range bytes (start - from) (end - from) in
    let whole : length part ≡ n = omega (arith, length-part seen at (at + n) (omega arith) fits) in
    let many : length common ≡ end - start = omega (
      arith,
      length-part bytes (start - from) (end - from) (omega (arith, some)) (omega (arith, ends)),
      starts,
      ends,
      some,
    ) in
    let room : start - at + length common ≤ length part = omega (arith, many, whole, starts, ends, some) in
    let long = length-written seen from bytes inside in
    let after = slice_range (written seen from bytes) at (at + n) in
    ext_get_or 0 (written part (start - at) common) after
    (length-written part (start - at) common room ∙ whole ∙ sym (omega (
      arith,
      length-part (written seen from bytes) at (at + n) (omega arith) (omega (arith, long, fits)),
    ))) (λ i lt.
    let small : i < n = omega (arith, lt, length-written part (start - at) common room, whole) in
    ⊎_elim
    (λ (before : at + i < start).
    written_before part (start - at) common i room (omega (arith, before))
    ∙ sym (apart seen bytes at n from i fits inside small (inl (omega (arith, before, starts)))))
    (λ (reached : start ≤ at + i). ⊎_elim
    (λ (within : at + i < end).
    written_within part (start - at) common i room (omega (arith, reached))
    (omega (arith, within, many, reached, starts))
    ∙ part_at bytes (start - from) (end - from) (i - (start - at)) (omega (arith, within, reached, starts))
    ∙ ap (λ k. get_or bytes k 0) (omega (arith, reached, starts))
    ∙ sym (part_at (written seen from bytes) at (at + n) i (omega (arith, small))
    ∙ written_within seen from bytes (at + i) inside (omega (arith, reached, starts)) (omega (arith, within, ends))))
    (λ (past : end ≤ at + i).
    written_after part (start - at) common i room (omega (arith, past, many, starts, some))
    ∙ sym (apart seen bytes at n from i fits inside small (inr (omega (arith, past, ends, small)))))
    (cases_lt (at + i) end))
    (cases_lt (at + i) start))

-- what the writes of a log leave is what those before an entry leave, and then the entry
pub content_after-more : {A : Type 0} (first : List ℕ) (log : List (Logged A)) (k : ℕ) (entry : Logged A)
    → k < length log → entry ≡ get_or log k entry → content_after first (changes_of (take (k + 1) log))
    ≡ content_after first (change_of entry ∷ changes_of (take k log))
content_after-more first log k entry lt is = ap (content_after first) (changes_of-more log k entry lt is)

-- a part after the entries before this one, which is a sync
pub part_after_sync : {A : Type 0} (first buffer : List ℕ) (log : List (Logged A)) (k at n : ℕ) (entry : Logged A)
    → k < length log → entry ≡ get_or log k entry → change_of entry ≡ sync
    → buffer ≡ slice_range (content_after first (changes_of (take k log))) at (at + n)
    → buffer ≡ slice_range (content_after first (changes_of (take (k + 1) log))) at (at + n)
part_after_sync first buffer log k at n entry lt is kind before =
    before ∙ ap (λ (l : List ℕ). slice_range l at (at + n)) (sym (content_after-more first log k entry lt is
    ∙ ap (λ (change : DiskChange). content_after first (change ∷ changes_of (take k log))) kind))

-- a part after the entries before this one, which is a write, and then patched by it
pub part_after_write : {A : Type 0} (first old new : List ℕ) (log : List (Logged A)) (k at n from : ℕ) (bytes : List ℕ)
    (entry : Logged A) → k < length log → entry ≡ get_or log k entry → change_of entry ≡ write from bytes
    → at + n ≤ length first → AreWithin (length first) (changes_of log) → length old ≡ n
    → ((seen : List ℕ) → at + length old ≤ length seen → from + length bytes ≤ length seen → old
    ≡ slice_range seen at (at + length old) → new ≡ slice_range (written seen from bytes) at (at + length old))
    → old ≡ slice_range (content_after first (changes_of (take k log))) at (at + n)
    → new ≡ slice_range (content_after first (changes_of (take (k + 1) log))) at (at + n)
part_after_write first old new log k at n from bytes entry lt is kind fits within long patches before =
    let upto = content_after first (changes_of (take k log)) in
    let split = subst (λ (l : List DiskChange). AreWithin (length first) l) (changes_of-split log k) within in
    let same = length-content_after first (changes_of (take k log))
    (within_older (length first) (changes_of (drop k log)) (changes_of (take k log)) split) in
    let here = subst (λ (change : DiskChange). AreWithin (length first) (change ∷ [])) kind
    (within_at log k (length first) entry lt is within) in
    let P : ℕ → Type 0 = λ m. old ≡ slice_range upto at (at + m)
    → new ≡ slice_range (written upto from bytes) at (at + m) in
    let patched_here = patches upto (omega (arith, fits, same, long)) (omega (arith, here.0, same)) in
    subst P long patched_here before
    ∙ ap (λ (l : List ℕ). slice_range l at (at + n)) (sym (content_after-more first log k entry lt is
    ∙ ap (λ (change : DiskChange). content_after first (change ∷ changes_of (take k log))) kind))

pub within_wider : (n m : ℕ) (changes : List DiskChange) → n ≤ m → AreWithin n changes → AreWithin m changes
within_wider n m [] le within = tt
within_wider n m (write at bytes ∷ older) le within = (omega (arith, within.0, le), within_wider n m older le within.1)
within_wider n m (sync ∷ older) le within = within_wider n m older le within
