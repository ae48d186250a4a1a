-- What each call of a disk of deferred calls keeps.
use Rattle.std.proofs.Common.{◌≡◌, ◌<◌, ◌≤◌, ◌⊎◌, inl, inr, ⊎_elim, ℕ, zero, suc, ◌+◌, ◌-◌, ◌*◌, ◌/◌}
use Rattle.std.proofs.Common.{Bool, true, false, List, [], ◌∷◌, ◌++◌, length, get_or}
use Rattle.std.proofs.Common.{length-append, length-drop, length-take, take, drop, replicate, set, Option}
use Rattle.std.proofs.Common.{Some, None, refl, sym, ◌∙◌, ap, subst, arith, Result, Ok, Err, OnOk, OnErr}
use Rattle.std.proofs.lemmas.Bool.{cases_lt}
use Rattle.std.proofs.lemmas.Bool.Decides.{nat_tests}
use Rattle.std.proofs.lemmas.List.{ext_get_or}
use Rattle.std.proofs.lemmas.List.{get_or-replicate, get_or-set_same, get_or-set_other}
use Rattle.std.proofs.lemmas.List.{length-set, length-replicate, take_at, take-take, take-append-drop}
use Rattle.std.specs.Prelude.{slice_get, slice_range, option_map, is_some, nat_lt, ◌&&◌, ◌||◌, if◌then◌else◌}
use Rattle.std.specs.Int.{div_ceil}
use Rattle.device.specs.Device.{written}
use Rattle.device.specs.Memory as memory
use Rattle.device.specs.Memory.{DiskChange, content_after, moment_of, left_since_of}
use Rattle.device.specs.Memory.DiskChange.{write, sync}
use Rattle.deferred_disk.specs.Deferred.{Deferred, as_memory, reaches}
use Rattle.deferred_disk.specs.Deferred.{one_reaches, block_of, made_before, done_by, first_unknown, with_known}
use Rattle.deferred_disk.specs.Deferred.{first_block, end_block, lacked_by_read, lacked_by_write, or_else}
use Rattle.device.specs.Work.{TornByWork}
use Rattle.deferred_disk.specs.declared.waiting.WaitingCall.{WaitingCall}
use Rattle.deferred_disk.specs.inside.Deferring.{IsKnownAt, AreKnown, AgreeWhereKnown, IsKept}
use Rattle.deferred_disk.specs.inside.Waiting.{change_of, changes_of}
use Rattle.device.specs.inside.Replay.{AreWithin}
use Rattle.device.proofs.Public.{length-content_after, part_at, length-part, length-written, torn_before, torn_after}
use Rattle.device.proofs.Public.{written_before, written_within, written_after, replaced_before, replaced_within}
use Rattle.device.proofs.Public.{replaced_after}
use Rattle.deferred_disk.proofs.Waits.{changes_of-more, changes_of-append, changes_of-split}
use Rattle.device.proofs.Public.{within_newer, within_older}
use Rattle.deferred_disk.proofs.Waits.{length-changes_of}

module _ (flags : List Bool) (from to : ℕ) (le : from ≤ to) (fits : to ≤ length flags) where
  many : from + length (replicate (to - from) true) ≡ to
  many = omega (arith, le, length-replicate (to - from) true)

  pub length-with_known : length (with_known flags from to) ≡ length flags
  length-with_known =
      omega (
        arith,
        many,
        fits,
        le,
        length-append (take from flags ++ replicate (to - from) true) (drop to flags),
        length-append (take from flags) (replicate (to - from) true),
        length-take from flags,
        length-drop to flags,
      )

  -- the blocks from the first to the last are known
  pub known_inside : (b : ℕ) → from ≤ b → b < to → get_or (with_known flags from to) b false ≡ true
  known_inside b least lt =
      replaced_within flags (replicate (to - from) true) from to b false (omega (arith, le, fits)) least
      (omega (arith, many, lt))
      ∙ get_or-replicate (to - from) (b - from) true false (omega (arith, least, lt))

  -- the others stay as they are
  pub known_outside : (b : ℕ) → (b < from) ⊎ (to ≤ b) → get_or (with_known flags from to) b false ≡ get_or flags b false
  known_outside b where_is = ⊎_elim
      (λ (before : b < from). replaced_before flags (replicate (to - from) true) from to b false
      (omega (arith, le, fits)) before)
      (λ (past : to ≤ b). replaced_after flags (replicate (to - from) true) from to b false
      (omega (arith, le, fits)) many past)
      where_is

  pub known_stays : (b : ℕ) → get_or flags b false ≡ true → get_or (with_known flags from to) b false ≡ true
  known_stays b known = ⊎_elim
      (λ (before : b < from). known_outside b (inl before) ∙ known)
      (λ (least : from ≤ b). ⊎_elim (λ (lt : b < to). known_inside b least lt)
      (λ (past : to ≤ b). known_outside b (inr past) ∙ known) (cases_lt b to))
      (cases_lt b from)

  -- a block that is known now was known, or is one of these
  pub known_from : (b : ℕ) → get_or (with_known flags from to) b false ≡ true
      → (get_or flags b false ≡ true) ⊎ ((from ≤ b) × (b < to))
  known_from b known = ⊎_elim
      (λ (before : b < from). inl (sym (known_outside b (inl before)) ∙ known))
      (λ (least : from ≤ b). ⊎_elim (λ (lt : b < to). inr (least, lt))
      (λ (past : to ≤ b). inl (sym (known_outside b (inr past)) ∙ known)) (cases_lt b to))
      (cases_lt b from)

none_here : (known : Bool) (rest : Option ℕ) (b : ℕ) → (if known then rest else Some b) ≡ None
    → (known ≡ true) × (rest ≡ None)
none_here true rest b none = (refl, none)
none_here false rest b none = absurd (cc)

-- where none of n blocks is found unknown, they are known
pub none_unknown : (flags : List Bool) (b n k : ℕ) → first_unknown flags b n ≡ None → b ≤ k → k < b + n
    → get_or flags k false ≡ true
none_unknown flags b zero k none le lt = absurd (omega (arith, le, lt))
none_unknown flags b (suc n) k none le lt =
    let here = none_here (get_or flags b false) (first_unknown flags (b + 1) n) b none in
    ⊎_elim
    (λ (more : b < k). none_unknown flags (b + 1) n k here.1 (omega (arith, more)) (omega (arith, lt)))
    (λ (same : k ≤ b). let is : k ≡ b = omega (arith, same, le) in ap (λ j. get_or flags j false) is ∙ here.0)
    (cases_lt b k)

neither : (a b : Option ℕ) → or_else a b ≡ None → (a ≡ None) × (b ≡ None)
neither None b none = (refl, none)
neither (Some n) b none = absurd (cc)

-- A read that lacks no block gives what the disk has.
pub agrees_for_read : (flags : List Bool) (bytes seen : List ℕ) (at n : ℕ) → AgreeWhereKnown flags bytes seen
    → length bytes ≡ length seen → at + n ≤ length seen → lacked_by_read flags at n ≡ None
    → slice_range bytes at (at + n) ≡ slice_range seen at (at + n)
agrees_for_read flags bytes seen at n agree same fits none =
    let long = length-part bytes at (at + n) (omega arith) (omega (arith, same, fits)) in
    let wide = length-part seen at (at + n) (omega arith) fits in
    ext_get_or 0 (slice_range bytes at (at + n)) (slice_range seen at (at + n)) (long ∙ sym wide) (λ i lt.
    let small : i < n = omega (arith, lt, long) in
    part_at bytes at (at + n) i (omega (arith, small))
    ∙ agree (at + i) (none_unknown flags (at / 4096) (div_ceil (at + n) 4096 - at / 4096) ((at + i) / 4096) none
    (omega arith) (omega (arith, small)))
    ∙ sym (part_at seen at (at + n) i (omega (arith, small))))

-- After a write that lacks no block they still agree.
pub agrees_after_write : (flags : List Bool) (bytes seen new : List ℕ) (at : ℕ) → AgreeWhereKnown flags bytes seen
    → length bytes ≡ 4096 * length flags → length bytes ≡ length seen → at + length new ≤ length seen
    → lacked_by_write flags at (length new) ≡ None
    → AgreeWhereKnown (with_known flags (first_block at) (end_block at (length new)))
    (written bytes at new) (written seen at new)
agrees_after_write flags bytes seen new at agree whole same fits lacked i known =
    let parts = neither (first_unknown flags (at / 4096) (div_ceil at 4096 - at / 4096)) (first_unknown flags
    ((at + length new) / 4096) (div_ceil (at + length new) 4096 - (at + length new) / 4096)) lacked in
    let inside : at + length new ≤ length bytes = omega (arith, same, fits) in
    let was = known_from flags (first_block at) (end_block at (length new)) (omega arith)
    (omega (arith, whole, inside)) (i / 4096) known in
    ⊎_elim
    (λ (before : i < at).
    let there : get_or flags (i / 4096) false ≡ true = ⊎_elim (λ k. k) (λ reached. none_unknown flags (at / 4096)
    (div_ceil at 4096 - at / 4096) (i / 4096) parts.0 (omega (arith, reached.0)) (omega (arith, before))) was in
    written_before bytes at new i inside before ∙ agree i there ∙ sym (written_before seen at new i fits before))
    (λ (from : at ≤ i). ⊎_elim
    (λ (within : i < at + length new). written_within bytes at new i inside from within
    ∙ sym (written_within seen at new i fits from within))
    (λ (past : at + length new ≤ i).
    let there : get_or flags (i / 4096) false ≡ true = ⊎_elim (λ k. k) (λ reached.
    none_unknown flags ((at + length new) / 4096) (div_ceil (at + length new) 4096 - (at + length new) / 4096)
    (i / 4096) parts.1 (omega (arith, past)) (omega (arith, reached.1, past))) was in
    written_after bytes at new i inside past ∙ agree i there ∙ sym (written_after seen at new i fits past))
    (cases_lt i (at + length new)))
    (cases_lt i at)

-- A block that is supplied as the disk has it: they still agree.
pub agrees_after_supply : (flags : List Bool) (bytes seen new : List ℕ) (block : ℕ) → AgreeWhereKnown flags bytes seen
    → length bytes ≡ 4096 * length flags → length bytes ≡ length seen → length new ≡ 4096
    → 4096 * block + 4096 ≤ length seen → new ≡ block_of seen block
    → AgreeWhereKnown (with_known flags block (block + 1)) (written bytes (4096 * block) new) seen
agrees_after_supply flags bytes seen new block agree whole same size fits is i known =
    let inside : 4096 * block + length new ≤ length bytes = omega (arith, same, fits, size) in
    let was = known_from flags block (block + 1) (omega arith) (omega (arith, whole, inside, size)) (i / 4096) known in
    ⊎_elim
    (λ (before : i < 4096 * block).
    let there : get_or flags (i / 4096) false ≡ true =
    ⊎_elim (λ k. k) (λ reached. absurd (omega (arith, reached.0, before))) was in
    written_before bytes (4096 * block) new i inside before ∙ agree i there)
    (λ (from : 4096 * block ≤ i). ⊎_elim
    (λ (within : i < 4096 * block + length new).
    let place : 4096 * block + (i - 4096 * block) ≡ i = omega (arith, from) in
    written_within bytes (4096 * block) new i inside from within ∙ ap (λ (l : List ℕ). get_or l (i - 4096 * block) 0) is
    ∙ part_at seen (4096 * block) (4096 * block + 4096) (i - 4096 * block) (omega (arith, within, size, from))
    ∙ ap (λ k. get_or seen k 0) place)
    (λ (past : 4096 * block + length new ≤ i).
    let there : get_or flags (i / 4096) false ≡ true =
    ⊎_elim (λ k. k) (λ reached. absurd (omega (arith, reached.1, past, size))) was in
    written_after bytes (4096 * block) new i inside past ∙ agree i there)
    (cases_lt i (4096 * block + length new)))
    (cases_lt i (4096 * block))

-- what waiting calls write stays known where more is known
pub known_for_more : (flags more : List Bool) (changes : List DiskChange)
    → ((b : ℕ) → get_or flags b false ≡ true → get_or more b false ≡ true) → AreKnown flags changes
    → AreKnown more changes
known_for_more flags more [] stays known = tt
known_for_more flags more (write at bytes ∷ older) stays known =
    (λ i le lt. stays (i / 4096) (known.0 i le lt), known_for_more flags more older stays known.1)
known_for_more flags more (sync ∷ older) stays known = known_for_more flags more older stays known

-- so it does without the oldest call
pub known_for_newer : (flags : List Bool) (newer older : List DiskChange) → AreKnown flags (newer ++ older)
    → AreKnown flags newer
known_for_newer flags [] older known = tt
known_for_newer flags (write at bytes ∷ newer) older known = (known.0, known_for_newer flags newer older known.1)
known_for_newer flags (sync ∷ newer) older known = known_for_newer flags newer older known

prefix_taken : {A : Type 0} (xs ys all : List A) (m : ℕ) → length xs ≤ m → xs ++ ys ≡ take m all
    → xs ≡ take (length xs) all
prefix_taken xs ys all m le is =
    sym (take_at xs ys (length xs) refl) ∙ ap (take (length xs)) is ∙ take-take (length xs) m all le

-- A disk begins with no block that is known, and no call.
pub kept_at_start : (first : List ℕ) (changes : List DiskChange) (supplied : List (List ℕ × List ℕ)) (bytes : List ℕ)
    (flags : List Bool) (waiting : List DiskChange) (blocks : ℕ) → length first ≡ 4096 * blocks → changes ≡ []
    → length bytes ≡ 4096 * blocks → flags ≡ replicate blocks false → waiting ≡ []
    → IsKept first changes supplied bytes flags waiting (4096 * blocks)
kept_at_start first changes supplied bytes flags waiting blocks size none long blank_room idle =
    let wide = ap length blank_room ∙ length-replicate blocks false in
    record {
      first_length = omega (arith, size, wide);
      bytes_length = omega (arith, long, wide);
      len_is = sym size;
      within = subst (AreWithin (length first)) (sym none) tt;
      waits = idle ∙ sym (ap (λ n. take n changes) (ap length idle));
      reached = subst (AreKnown flags) (sym idle) tt;
      agrees = λ alike i known. absurd (cc (
        never (i / 4096) blocks,
        ap (λ (l : List Bool). get_or l (i / 4096) false) blank_room,
        known,
      ));
    }
  where
    never : (b n : ℕ) → get_or (replicate n false) b false ≡ false
    never b zero = refl
    never zero (suc n) = refl
    never (suc b) (suc n) = never b n

-- The oldest waiting call is taken away: the others stay, as the newest changes, and what they write is known.
pub kept_without_oldest : (first : List ℕ) (changes : List DiskChange) (supplied : List (List ℕ × List ℕ))
    (bytes : List ℕ) (flags : List Bool) (newer : List DiskChange) (change : DiskChange) (len : ℕ)
    → IsKept first changes supplied bytes flags (newer ++ change ∷ []) len
    → IsKept first changes supplied bytes flags newer len
kept_without_oldest first changes supplied bytes flags newer change len kept = record {
  first_length = kept.first_length;
  bytes_length = kept.bytes_length;
  len_is = kept.len_is;
  within = kept.within;
  waits = prefix_taken newer (change ∷ []) changes (length (newer ++ change ∷ []))
      (omega (arith, length-append newer (change ∷ []))) kept.waits;
  reached = known_for_newer flags newer (change ∷ []) kept.reached;
  agrees = kept.agrees;
}

-- A write is recorded.
pub kept_with_write : (first : List ℕ) (changes : List DiskChange) (supplied : List (List ℕ × List ℕ)) (bytes : List ℕ)
    (flags : List Bool) (waiting : List DiskChange) (len at : ℕ) (new : List ℕ)
    → IsKept first changes supplied bytes flags waiting len → at + length new ≤ length first
    → lacked_by_write flags at (length new) ≡ None
    → IsKept first (write at new ∷ changes) supplied (written bytes at new)
    (with_known flags (first_block at) (end_block at (length new))) (write at new ∷ waiting) len
kept_with_write first changes supplied bytes flags waiting len at new kept fits lacked =
    let seen = length-content_after first changes kept.within in
    let to : end_block at (length new) ≤ length flags = omega (arith, kept.first_length, fits) in
    let from : first_block at ≤ end_block at (length new) = omega arith in
    let wide = length-with_known flags (first_block at) (end_block at (length new)) from to in
    let same = length-written bytes at new (omega (arith, kept.bytes_length, kept.first_length, fits)) in
    record {
      first_length = omega (arith, wide, kept.first_length);
      bytes_length = omega (arith, wide, kept.bytes_length, same);
      len_is = kept.len_is;
      within = (fits, kept.within);
      waits = ap (λ (l : List DiskChange). write at new ∷ l) kept.waits;
      reached = (
        λ i le lt. known_inside flags (first_block at) (end_block at (length new)) from to (i / 4096)
            (omega (arith, le)) (omega (arith, lt)),
        known_for_more flags (with_known flags (first_block at) (end_block at (length new))) waiting
            (known_stays flags (first_block at) (end_block at (length new)) from to) kept.reached,
      );
      agrees = λ alike. agrees_after_write flags bytes (content_after first changes) new at
          (kept.agrees alike) kept.bytes_length (omega (arith, seen, kept.bytes_length, kept.first_length))
          (omega (arith, seen, fits)) lacked;
    }

-- A sync is recorded.
pub kept_with_sync : (first : List ℕ) (changes : List DiskChange) (supplied : List (List ℕ × List ℕ)) (bytes : List ℕ)
    (flags : List Bool) (waiting : List DiskChange) (len : ℕ) → IsKept first changes supplied bytes flags waiting len
    → IsKept first (sync ∷ changes) supplied bytes flags (sync ∷ waiting) len
kept_with_sync first changes supplied bytes flags waiting len kept = record {
  first_length = kept.first_length;
  bytes_length = kept.bytes_length;
  len_is = kept.len_is;
  within = kept.within;
  waits = ap (λ (l : List DiskChange). sync ∷ l) kept.waits;
  reached = kept.reached;
  agrees = kept.agrees;
}

-- A block is supplied.
pub kept_with_block : (first : List ℕ) (changes : List DiskChange) (supplied : List (List ℕ × List ℕ)) (bytes : List ℕ)
    (flags : List Bool) (waiting : List DiskChange) (len block : ℕ) (new : List ℕ)
    → IsKept first changes supplied bytes flags waiting len → length new ≡ 4096 → 4096 * block + 4096 ≤ length first
    → IsKept first changes ((new, block_of (content_after first changes) block) ∷ supplied)
    (written bytes (4096 * block) new) (with_known flags block (block + 1)) waiting len
kept_with_block first changes supplied bytes flags waiting len block new kept size fits =
    let seen = length-content_after first changes kept.within in
    let to : block + 1 ≤ length flags = omega (arith, kept.first_length, fits) in
    let from : block ≤ block + 1 = omega arith in
    let wide = length-with_known flags block (block + 1) from to in
    let same = length-written bytes (4096 * block) new
    (omega (arith, kept.bytes_length, kept.first_length, fits, size)) in
    record {
      first_length = omega (arith, wide, kept.first_length);
      bytes_length = omega (arith, wide, kept.bytes_length, same);
      len_is = kept.len_is;
      within = kept.within;
      waits = kept.waits;
      reached = known_for_more flags (with_known flags block (block + 1)) waiting
          (known_stays flags block (block + 1) from to) kept.reached;
      agrees = λ alike. agrees_after_supply flags bytes (content_after first changes) new block
          (kept.agrees alike.1) kept.bytes_length (omega (arith, seen, kept.bytes_length, kept.first_length)) size
          (omega (arith, seen, fits)) alike.0;
    }

pub same_supplied : {T E : Type 0} (result : Result T E) (old new : Deferred) (done refused : List (List ℕ × List ℕ))
    → OnOk result (new.supplied ≡ old.supplied) → OnErr result (new.supplied ≡ old.supplied)
    → new.supplied ≡ old.supplied
same_supplied (Ok x) old new done refused is other = is
same_supplied (Err e) old new done refused is other = other

-- The scan for an unknown block goes on where one is known, and ends where one isn't.
pub scan_on : (flags : List Bool) (k to : ℕ) → k < to → get_or flags k false ≡ true
    → first_unknown flags k (to - k) ≡ first_unknown flags (k + 1) (to - (k + 1))
scan_on flags k to lt known =
    let more : to - k ≡ suc (to - (k + 1)) = omega (arith, lt) in
    ap (first_unknown flags k) more ∙ ap (λ b. if b then first_unknown flags (k + 1) (to - (k + 1)) else Some k) known

pub scan_ends : (flags : List Bool) (k to : ℕ) → k < to → get_or flags k false ≡ false
    → first_unknown flags k (to - k) ≡ Some k
scan_ends flags k to lt unknown =
    let more : to - k ≡ suc (to - (k + 1)) = omega (arith, lt) in
    ap (first_unknown flags k) more ∙ ap (λ b. if b then first_unknown flags (k + 1) (to - (k + 1)) else Some k) unknown

pub scanned : (flags : List Bool) (k to : ℕ) → to ≤ k → first_unknown flags k (to - k) ≡ None
scanned flags k to le = let none : to - k ≡ 0 = omega (arith, le) in ap (first_unknown flags k) none

got_at : (newer older : List DiskChange) (change : DiskChange)
    → slice_get ((newer ++ change ∷ []) ++ older) (length newer) ≡ Some change
got_at [] older change = refl
got_at (x ∷ newer) older change = got_at newer older change

-- The call at the front of the log is the oldest that waits.
pub front_is_oldest : {A : Type 0} (log : List (WaitingCall A)) (changes : List DiskChange)
    → changes_of log ≡ take (length (changes_of log)) changes
    → made_before (length log) changes ≡ option_map change_of (slice_get log 0)
front_is_oldest [] changes waits = refl
front_is_oldest (e ∷ log) changes waits =
    let m = length (changes_of (e ∷ log)) in
    ap (slice_get changes) (sym (length-changes_of log))
    ∙ ap (λ (l : List DiskChange). slice_get l (length (changes_of log)))
    (sym (take-append-drop m changes) ∙ ap (λ (l : List DiskChange). l ++ drop m changes) (sym waits))
    ∙ got_at (changes_of log) (drop m changes) (change_of e)

-- The call at an index of the log is the one that waits behind as many others.
pub waits_at : {A : Type 0} (log : List (WaitingCall A)) (changes : List DiskChange) (i : ℕ)
    → changes_of log ≡ take (length (changes_of log)) changes
    → made_before (length log - i) changes ≡ option_map change_of (slice_get log i)
waits_at log changes zero waits =
    let whole : length log - 0 ≡ length log = omega (arith) in
    ap (λ (n : ℕ). made_before n changes) whole ∙ front_is_oldest log changes waits
waits_at {A} [] changes (suc i) waits =
    let none : 0 - suc i ≡ 0 = omega (arith) in
    ap (λ (n : ℕ). made_before n changes) none
waits_at (e ∷ log) changes (suc i) waits =
    let m = length (changes_of (e ∷ log)) in
    let less : suc (length log) - suc i ≡ length log - i = omega (arith) in
    ap (λ (n : ℕ). made_before n changes) less
    ∙ waits_at log changes i (prefix_taken (changes_of log) (change_of e ∷ []) changes m
    (omega (arith, length-append (changes_of log) (change_of e ∷ []))) waits)

-- The front of the log is taken away.
pub kept_without_front : {A : Type 0} (first : List ℕ) (changes : List DiskChange) (supplied : List (List ℕ × List ℕ))
    (bytes : List ℕ) (flags : List Bool) (log new : List (WaitingCall A)) (len : ℕ) → new ≡ drop 1 log
    → IsKept first changes supplied bytes flags (changes_of log) len
    → IsKept first changes supplied bytes flags (changes_of new) len
kept_without_front first changes supplied bytes flags [] new len rest kept =
    subst (λ (l : List (WaitingCall _)). IsKept first changes supplied bytes flags (changes_of l) len) (sym rest) kept
kept_without_front first changes supplied bytes flags (e ∷ log) new len rest kept =
    subst (λ (l : List (WaitingCall _)). IsKept first changes supplied bytes flags (changes_of l) len) (sym rest)
    (kept_without_oldest first changes supplied bytes flags (changes_of log) (change_of e) len kept)

pub few_wait : {A : Type 0} (log : List (WaitingCall A)) (changes : List DiskChange)
    → changes_of log ≡ take (length (changes_of log)) changes → length log ≤ length changes
few_wait log changes waits =
    omega (arith, length-changes_of log, ap length waits, length-take (length (changes_of log)) changes)

-- the same, of equal parts
pub kept_as : {first first' : List ℕ} {changes changes' : List DiskChange} {supplied supplied' : List (List ℕ × List ℕ)}
    {bytes bytes' : List ℕ} {flags flags' : List Bool} {waiting waiting' : List DiskChange} {len : ℕ} → first' ≡ first
    → changes' ≡ changes → supplied' ≡ supplied → bytes' ≡ bytes → flags' ≡ flags → waiting' ≡ waiting
    → IsKept first changes supplied bytes flags waiting len
    → IsKept first' changes' supplied' bytes' flags' waiting' len
kept_as {first} {first'} {changes} {changes'} {supplied} {supplied'} {bytes} {bytes'} {flags} {flags'} {waiting}
    {waiting'} {len} f c s b k w kept =
    subst (λ (x : List ℕ). IsKept x changes' supplied' bytes' flags' waiting' len) (sym f)
    (subst (λ (x : List DiskChange). IsKept first x supplied' bytes' flags' waiting' len) (sym c)
    (subst (λ (x : List (List ℕ × List ℕ)). IsKept first changes x bytes' flags' waiting' len) (sym s)
    (subst (λ (x : List ℕ). IsKept first changes supplied x flags' waiting' len) (sym b)
    (subst (λ (x : List Bool). IsKept first changes supplied bytes x waiting' len) (sym k)
    (subst (λ (x : List DiskChange). IsKept first changes supplied bytes flags x len) (sym w) kept)))))

-- What lies within the content lies within the bytes of the device, within those that are kept, and within the length.
pub within_kept : {inside now : Deferred} {supplied : List (List ℕ × List ℕ)} {bytes : List ℕ} {flags : List Bool}
    {waiting : List DiskChange} {len : ℕ} (n : ℕ)
    → inside ≡ now → IsKept inside.first inside.changes supplied bytes flags waiting len
    → n ≤ length (memory.seen_of (as_memory now))
    → (n ≤ length inside.first) × ((n ≤ length bytes) × (n ≤ len))
within_kept {inside} n same kept within =
    let room = subst (λ (d : Deferred). n ≤ length (memory.seen_of (as_memory d))) (sym same) within in
    let whole = length-content_after inside.first inside.changes kept.within in
    let low : n ≤ length inside.first = omega (arith, room, whole) in
    (low, (omega (arith, low, kept.first_length, kept.bytes_length), omega (arith, low, whole, kept.len_is)))

-- The waiting calls are within a device that is as long as the disk.
pub within_log : (first : List ℕ) (changes log : List DiskChange) (n : ℕ) → n ≡ length (content_after first changes)
    → AreWithin (length first) changes → log ≡ take (length log) changes → AreWithin n log
within_log first changes log n size within waits =
    let m = length log in
    let all = subst (AreWithin (length first)) (sym (take-append-drop m changes)) within in
    subst (λ k. AreWithin k log) (sym (size ∙ length-content_after first changes within))
    (subst (AreWithin (length first)) (sym waits) (within_newer (length first) (take m changes) (drop m changes) all))

-- At a place whose block isn't known no waiting call wrote.
untouched : (flags : List Bool) (first : List ℕ) (newer older : List DiskChange) (i : ℕ)
    → AreWithin (length first) (newer ++ older) → AreKnown flags newer → get_or flags (i / 4096) false ≡ false
    → get_or (content_after first (newer ++ older)) i 0 ≡ get_or (content_after first older) i 0
untouched flags first [] older i within known unknown = refl
untouched flags first (sync ∷ newer) older i within known unknown =
    untouched flags first newer older i within known unknown
untouched flags first (write at bytes ∷ newer) older i within known unknown =
    let content = content_after first (newer ++ older) in
    let fits : at + length bytes ≤ length content =
    omega (arith, within.0, length-content_after first (newer ++ older) within.1) in
    ⊎_elim
    (λ (before : i < at). written_before content at bytes i fits before)
    (λ (from : at ≤ i). ⊎_elim
    (λ (to : i < at + length bytes). absurd (cc (known.0 i from to, unknown)))
    (λ (past : at + length bytes ≤ i). written_after content at bytes i fits past)
    (cases_lt i (at + length bytes)))
    (cases_lt i at)
    ∙ untouched flags first newer older i within.1 known.1 unknown

-- A block that isn't known is what it was before the oldest waiting call.
pub unknown_stays : (first : List ℕ) (changes : List DiskChange) (supplied : List (List ℕ × List ℕ)) (bytes : List ℕ)
    (flags : List Bool) (waiting : List DiskChange) (len block : ℕ)
    → IsKept first changes supplied bytes flags waiting len → 4096 * block + 4096 ≤ length first
    → get_or flags block false ≡ false
    → block_of (content_after first (drop (length waiting) changes)) block
    ≡ block_of (content_after first changes) block
unknown_stays first changes supplied bytes flags waiting len block kept fits unknown =
    let n = length waiting in
    let older = drop n changes in
    let split : waiting ++ older ≡ changes =
    ap (λ (l : List DiskChange). l ++ older) kept.waits ∙ take-append-drop n changes in
    let within = subst (AreWithin (length first)) (sym split) kept.within in
    let before = length-content_after first older (within_older (length first) waiting older within) in
    let after = length-content_after first changes kept.within in
    let small = length-part (content_after first older) (4096 * block) (4096 * block + 4096) (omega arith)
    (omega (arith, before, fits)) in
    let same = length-part (content_after first changes) (4096 * block) (4096 * block + 4096) (omega arith)
    (omega (arith, after, fits)) in
    ext_get_or 0 (block_of (content_after first older) block) (block_of (content_after first changes) block)
    (small ∙ sym same) (λ i lt.
    let inside : i < 4096 = omega (arith, lt, small) in
    let here : (4096 * block + i) / 4096 ≡ block = omega (arith, inside) in
    part_at (content_after first older) (4096 * block) (4096 * block + 4096) i (omega (arith, inside))
    ∙ sym (untouched flags first waiting older (4096 * block + i) within kept.reached
    (ap (λ b. get_or flags b false) here ∙ unknown))
    ∙ ap (λ (l : List DiskChange). get_or (content_after first l) (4096 * block + i) 0) split
    ∙ sym (part_at (content_after first changes) (4096 * block) (4096 * block + 4096) i (omega (arith, inside))))

pub none_of : (lacked : Option ℕ) → is_some lacked ≡ false → lacked ≡ None
none_of None none = refl
none_of (Some block) none = absurd (cc)

-- a disk whose parts are equal
pub same_deferred : {first first' : List ℕ} {changes changes' : List DiskChange} {waiting waiting' : ℕ}
    {known known' : List Bool} {supplied supplied' : List (List ℕ × List ℕ)} {wanted wanted' : Option ℕ}
    {calls calls' faults faults' : ℕ} → first' ≡ first → changes' ≡ changes → waiting' ≡ waiting → known' ≡ known
    → supplied' ≡ supplied → wanted' ≡ wanted → calls' ≡ calls → faults' ≡ faults
    → ◌≡◌ {A = Deferred} (record {
      first = first';
      changes = changes';
      waiting = waiting';
      known = known';
      supplied = supplied';
      wanted = wanted';
      calls = calls';
      faults = faults';
    }) (record {
      first = first;
      changes = changes;
      waiting = waiting;
      known = known;
      supplied = supplied;
      wanted = wanted;
      calls = calls;
      faults = faults;
    })
same_deferred f c w k s l n m = λ i. record {
  first = f i;
  changes = c i;
  waiting = w i;
  known = k i;
  supplied = s i;
  wanted = l i;
  calls = n i;
  faults = m i;
}

-- one more call waits
pub one_more : {A : Type 0} (log new : List (WaitingCall A)) (change : DiskChange)
    → changes_of new ≡ change ∷ changes_of log
    → length new ≡ length log + 1
one_more log new change more = omega (arith, ap length more, length-changes_of log, length-changes_of new)

-- A change that doesn't reach a block writes nowhere in it.
not_there : (at n block i : ℕ) → (nat_lt at (4096 * block + 4096) && nat_lt (4096 * block) (at + n)) ≡ false → at ≤ i
    → i < at + n → (i / 4096 < block) ⊎ (block < i / 4096)
not_there at n block i none le lt = ⊎_elim
    (λ (below : i / 4096 < block). inl below)
    (λ (least : block ≤ i / 4096). ⊎_elim
    (λ (above : block < i / 4096). inr above)
    (λ (same : i / 4096 ≤ block). absurd (cc (
      both at (4096 * block + 4096) (4096 * block) (at + n) (omega (arith, le, same)) (omega (arith, lt, least)),
      none,
    )))
    (cases_lt block (i / 4096)))
    (cases_lt (i / 4096) block)
  where
    both : (a b c d : ℕ) → a < b → c < d → (nat_lt a b && nat_lt c d) ≡ true
    both a b c d first second = grind (arith, nat_tests)

neither_reaches : (a b : Bool) → (a || b) ≡ false → (a ≡ false) × (b ≡ false)
neither_reaches true b none = absurd (cc)
neither_reaches false b none = (refl, none)

other_flag : (flags : List Bool) (block b : ℕ) → (b < block) ⊎ (block < b)
    → get_or (set flags block false) b false ≡ get_or flags b false
other_flag flags block b apart = ⊎_elim
    (λ (below : b < block). get_or-set_other flags block b false false (omega (arith, below)))
    (λ (above : block < b). get_or-set_other flags block b false false (omega (arith, above)))
    apart

known_without : (flags : List Bool) (block : ℕ) (changes : List DiskChange) → one_reaches changes block ≡ false
    → AreKnown flags changes → AreKnown (set flags block false) changes
known_without flags block [] none known = tt
known_without flags block (sync ∷ older) none known = known_without flags block older none known
known_without flags block (write at bytes ∷ older) none known =
    let parts = neither_reaches (reaches (write at bytes) block) (one_reaches older block) none in (
      λ i le lt. other_flag flags block (i / 4096)
          (not_there at (length bytes) block i parts.0 le lt) ∙ known.0 i le lt,
      known_without flags block older parts.1 known.1,
    )

-- A block that no waiting call writes to is forgotten: the bytes of the others stay.
pub kept_without_block : (first : List ℕ) (changes : List DiskChange) (supplied : List (List ℕ × List ℕ))
    (bytes left : List ℕ) (flags : List Bool) (waiting : List DiskChange) (len block : ℕ)
    → IsKept first changes supplied bytes flags waiting len → block < length flags → one_reaches waiting block ≡ false
    → length left ≡ length bytes
    → ((i : ℕ) → IsKnownAt (set flags block false) i → get_or left i 0 ≡ get_or bytes i 0)
    → IsKept first changes supplied left (set flags block false) waiting len
kept_without_block first changes supplied bytes left flags waiting len block kept inside none same stays =
    let wide = length-set flags block false in
    record {
      first_length = omega (arith, wide, kept.first_length);
      bytes_length = omega (arith, wide, same, kept.bytes_length);
      len_is = kept.len_is;
      within = kept.within;
      waits = kept.waits;
      reached = known_without flags block waiting none kept.reached;
      agrees = λ alike i known. stays i known ∙ kept.agrees alike i (was i known);
    }
  where
    was : (i : ℕ) → IsKnownAt (set flags block false) i → IsKnownAt flags i
    was i known = ⊎_elim
        (λ (below : i / 4096 < block). sym (other_flag flags block (i / 4096) (inl below)) ∙ known)
        (λ (least : block ≤ i / 4096). ⊎_elim
        (λ (above : block < i / 4096). sym (other_flag flags block (i / 4096) (inr above)) ∙ known)
        (λ (same : i / 4096 ≤ block).
        let here : i / 4096 ≡ block = omega (arith, least, same) in
        absurd (cc (get_or-set_same flags block false false inside, ap (get_or (set flags block false)) here, known)))
        (cases_lt block (i / 4096)))
        (cases_lt (i / 4096) block)

one_of_both : (newer older : List DiskChange) (block : ℕ) → one_reaches older block ≡ true
    → one_reaches (newer ++ older) block ≡ true
one_of_both [] older block one = one
one_of_both (x ∷ newer) older block one =
    or_true (reaches x block) (one_reaches (newer ++ older) block) (one_of_both newer older block one)
  where
    or_true : (a b : Bool) → b ≡ true → (a || b) ≡ true
    or_true true b one = refl
    or_true false b one = one

-- One more call of a log doesn't reach the block, or one does.
pub none_more : {A : Type 0} (log : List (WaitingCall A)) (k block : ℕ) (entry : WaitingCall A) → k < length log
    → entry ≡ get_or log k entry → reaches (change_of entry) block ≡ false
    → one_reaches (changes_of (take k log)) block ≡ false → one_reaches (changes_of (take (k + 1) log)) block ≡ false
none_more log k block entry lt is not_here none =
    ap (λ (l : List DiskChange). one_reaches l block) (changes_of-more log k entry lt is)
    ∙ ap (λ b. b || one_reaches (changes_of (take k log)) block) not_here ∙ none

pub one_there : {A : Type 0} (log : List (WaitingCall A)) (k block : ℕ) (entry : WaitingCall A) → k < length log
    → entry ≡ get_or log k entry → reaches (change_of entry) block ≡ true → one_reaches (changes_of log) block ≡ true
one_there log k block entry lt is here =
    ap (λ (l : List DiskChange). one_reaches l block) (changes_of-split log (k + 1))
    ∙ one_of_both (changes_of (drop (k + 1) log)) (changes_of (take (k + 1) log)) block
    (ap (λ (l : List DiskChange). one_reaches l block) (changes_of-more log k entry lt is)
    ∙ ap (λ b. b || one_reaches (changes_of (take k log)) block) here)

-- the changes of a log in two parts
pub changes_of_both : {A : Type 0} (older newer log : List (WaitingCall A)) → older ++ newer ≡ log
    → changes_of log ≡ changes_of newer ++ changes_of older
changes_of_both older newer log is = ap changes_of (sym is) ∙ changes_of-append older newer

pub one_of_two : (newer older : List DiskChange) (block : ℕ)
    → one_reaches (newer ++ older) block ≡ (one_reaches newer block || one_reaches older block)
one_of_two [] older block = refl
one_of_two (x ∷ newer) older block = ap (λ b. reaches x block || b) (one_of_two newer older block)
    ∙ or_assoc (reaches x block) (one_reaches newer block) (one_reaches older block)
  where
    or_assoc : (a b c : Bool) → (a || (b || c)) ≡ ((a || b) || c)
    or_assoc true b c = refl
    or_assoc false b c = refl

got_taken : (changes : List DiskChange) (n k : ℕ) → k < n → slice_get (take n changes) k ≡ slice_get changes k
got_taken changes zero k lt = absurd (omega (arith, lt))
got_taken [] (suc n) k lt = refl
got_taken (x ∷ changes) (suc n) zero lt = refl
got_taken (x ∷ changes) (suc n) (suc k) lt = got_taken changes n k (omega (arith, lt))

known_got : (flags : List Bool) (changes : List DiskChange) (k at : ℕ) (bytes : List ℕ) → AreKnown flags changes
    → slice_get changes k ≡ Some (write at bytes) → (i : ℕ) → at ≤ i → i < at + length bytes → IsKnownAt flags i
known_got flags [] k at bytes known got = absurd (cc)
known_got flags (sync ∷ changes) zero at bytes known got = absurd (cc)
known_got flags (sync ∷ changes) (suc k) at bytes known got = known_got flags changes k at bytes known got
known_got flags (write from new ∷ changes) (suc k) at bytes known got = known_got flags changes k at bytes known.1 got
known_got flags (write from new ∷ changes) zero at bytes known got = λ i le lt.
    let places : from ≡ at = cc in
    let same : new ≡ bytes = cc in
    known.0 i (omega (arith, places, le)) (omega (arith, places, ap length same, lt))

-- What the oldest waiting call left in part is in blocks that are known.
torn_elsewhere : (flags : List Bool) (changes waiting : List DiskChange) (old new : List ℕ) (i : ℕ)
    → waiting ≡ take (length waiting) changes → AreKnown flags waiting → get_or flags (i / 4096) false ≡ false
    → TornByWork (done_by (made_before (length waiting) changes)) old new → get_or new i 0 ≡ get_or old i 0
torn_elsewhere flags changes [] old new i waits known unknown torn = ap (λ (l : List ℕ). get_or l i 0) torn
torn_elsewhere flags changes (newest ∷ waiting) old new i waits known unknown torn =
    by_call (slice_get changes (length waiting)) refl torn
  where
    by_call : (call : Option DiskChange) → slice_get changes (length waiting) ≡ call → TornByWork (done_by call) old new
        → get_or new i 0 ≡ get_or old i 0
    by_call None got same = ap (λ (l : List ℕ). get_or l i 0) same
    by_call (Some sync) got same = ap (λ (l : List ℕ). get_or l i 0) same
    by_call (Some (write at bytes)) got now =
        let n = length (newest ∷ waiting) in
        let here = ap (λ (l : List DiskChange). slice_get l (length waiting)) waits
        ∙ got_taken changes n (length waiting) (omega arith) ∙ got in
        ⊎_elim
        (λ (before : i < at). torn_before now i before)
        (λ (from : at ≤ i). ⊎_elim
        (λ (to : i < at + length bytes).
        absurd (cc (known_got flags (newest ∷ waiting) (length waiting) at bytes known here i from to, unknown)))
        (λ (past : at + length bytes ≤ i). torn_after now i past)
        (cases_lt i (at + length bytes)))
        (cases_lt i at)

-- A device that is where the disk was before its oldest waiting call has in a block that isn't known what the disk has.
pub unknown_there : (first : List ℕ) (changes : List DiskChange) (supplied : List (List ℕ × List ℕ)) (bytes : List ℕ)
    (flags : List Bool) (waiting : List DiskChange) (len block : ℕ) (seen : List ℕ)
    → IsKept first changes supplied bytes flags waiting len → 4096 * block + 4096 ≤ length first
    → get_or flags block false ≡ false
    → length seen ≡ length first → TornByWork (done_by (made_before (length waiting) changes))
    (content_after first (drop (length waiting) changes)) seen
    → block_of seen block ≡ block_of (content_after first changes) block
unknown_there first changes supplied bytes flags waiting len block seen kept fits unknown long torn =
    let n = length waiting in
    let before = content_after first (drop n changes) in
    let there = unknown_stays first changes supplied bytes flags waiting len block kept fits unknown in
    let all = subst (AreWithin (length first)) (sym (take-append-drop n changes)) kept.within in
    let size = length-content_after first (drop n changes)
    (within_older (length first) (take n changes) (drop n changes) all) in
    let small = length-part seen (4096 * block) (4096 * block + 4096) (omega arith) (omega (arith, long, fits)) in
    let same = length-part before (4096 * block) (4096 * block + 4096) (omega arith) (omega (arith, size, fits)) in
    ext_get_or 0 (block_of seen block) (block_of before block) (small ∙ sym same) (λ i lt.
    let inside : i < 4096 = omega (arith, lt, small) in
    let here : (4096 * block + i) / 4096 ≡ block = omega (arith, inside) in
    part_at seen (4096 * block) (4096 * block + 4096) i (omega (arith, inside))
    ∙ torn_elsewhere flags changes waiting before seen (4096 * block + i) kept.waits kept.reached
    (ap (λ b. get_or flags b false) here ∙ unknown) torn
    ∙ sym (part_at before (4096 * block) (4096 * block + 4096) i (omega (arith, inside))))
    ∙ there
