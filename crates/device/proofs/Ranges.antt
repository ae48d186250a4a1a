-- What a write changes in a list, and what a torn range leaves.
use Rattle.std.proofs.Common.{◌≡◌, ◌<◌, ◌≤◌, ℕ, ◌+◌, ◌-◌, List, ◌++◌, length, take, drop, get_or, refl, sym}
use Rattle.std.proofs.Common.{◌∙◌, ap, subst, arith, append_assoc, length-append, length-take, length-drop}
use Rattle.std.proofs.lemmas.List.{take_at, drop_at, get_or_append_left, get_or-append_right}
use Rattle.std.proofs.lemmas.List.{get_or-take, get_or-drop, ext_get_or}
use Rattle.std.specs.Prelude.{slice_range}
use Rattle.device.specs.Device.{written, Torn, TornFrom}

pub length-written : (old : List ℕ) (at : ℕ) (bytes : List ℕ) → at + length bytes ≤ length old
    → length (written old at bytes) ≡ length old
length-written old at bytes fits =
    omega (
      arith,
      length-append (take at old ++ bytes) (drop (at + length bytes) old),
      length-append (take at old) bytes,
      length-take at old,
      length-drop (at + length bytes) old,
    )

-- A list with a part of it replaced, by place.
module _ {A : Type 0} (xs ys : List A) (from to i : ℕ) (d : A) (fits : from ≤ length xs) where
  front : length (take from xs) ≡ from
  front = omega (arith, fits, length-take from xs)

  pub replaced_before : i < from → get_or (take from xs ++ ys ++ drop to xs) i d ≡ get_or xs i d
  replaced_before lt =
      get_or_append_left (take from xs ++ ys) (drop to xs) d i
      (omega (arith, lt, front, length-append (take from xs) ys))
      ∙ get_or_append_left (take from xs) ys d i (omega (arith, lt, front)) ∙ get_or-take from xs i d lt

  pub replaced_within : from ≤ i → i < from + length ys
      → get_or (take from xs ++ ys ++ drop to xs) i d ≡ get_or ys (i - from) d
  replaced_within le lt =
      get_or_append_left (take from xs ++ ys) (drop to xs) d i
      (omega (arith, lt, front, length-append (take from xs) ys))
      ∙ get_or-append_right (take from xs) ys from i d front le

  pub replaced_after : from + length ys ≡ to → to ≤ i → get_or (take from xs ++ ys ++ drop to xs) i d ≡ get_or xs i d
  replaced_after same le =
      let place : to + (i - to) ≡ i = omega (arith, le) in
      get_or-append_right (take from xs ++ ys) (drop to xs) to i d
      (omega (arith, same, front, length-append (take from xs) ys)) le
      ∙ get_or-drop to xs (i - to) d ∙ ap (λ k. get_or xs k d) place

-- the place is before the range that is written, in it or past it
pub written_before : (old : List ℕ) (at : ℕ) (bytes : List ℕ) (i : ℕ) → at + length bytes ≤ length old → i < at
    → get_or (written old at bytes) i 0 ≡ get_or old i 0
written_before old at bytes i fits = replaced_before old bytes at (at + length bytes) i 0 (omega (arith, fits))

pub written_within : (old : List ℕ) (at : ℕ) (bytes : List ℕ) (i : ℕ) → at + length bytes ≤ length old → at ≤ i
    → i < at + length bytes → get_or (written old at bytes) i 0 ≡ get_or bytes (i - at) 0
written_within old at bytes i fits = replaced_within old bytes at (at + length bytes) i 0 (omega (arith, fits))

pub written_after : (old : List ℕ) (at : ℕ) (bytes : List ℕ) (i : ℕ) → at + length bytes ≤ length old
    → at + length bytes ≤ i → get_or (written old at bytes) i 0 ≡ get_or old i 0
written_after old at bytes i fits = replaced_after old bytes at (at + length bytes) i 0 (omega (arith, fits)) refl

pub take-written : (old : List ℕ) (at : ℕ) (bytes : List ℕ) → at + length bytes ≤ length old
    → take at (written old at bytes) ≡ take at old
take-written old at bytes fits =
    ap (take at) (append_assoc (take at old) bytes (drop (at + length bytes) old))
    ∙ take_at (take at old) (bytes ++ drop (at + length bytes) old) at (omega (arith, length-take at old))

pub drop-written : (old : List ℕ) (at : ℕ) (bytes : List ℕ) → at + length bytes ≤ length old
    → drop (at + length bytes) (written old at bytes) ≡ drop (at + length bytes) old
drop-written old at bytes fits =
    drop_at (take at old ++ bytes) (drop (at + length bytes) old) (at + length bytes)
    (omega (arith, length-append (take at old) bytes, length-take at old))

-- a write changes no more than its range
pub torn_by_write : (old : List ℕ) (at : ℕ) (bytes : List ℕ) → at + length bytes ≤ length old
    → Torn at (length bytes) old (written old at bytes)
torn_by_write old at bytes fits = record {
  before = take-written old at bytes fits;
  after = drop-written old at bytes fits;
  same_length = length-written old at bytes fits;
}

-- a list is torn from itself
pub torn_none : (at n : ℕ) (old : List ℕ) → Torn at n old old
torn_none at n old = record { before = refl; after = refl; same_length = refl }

-- places before a torn range keep their bytes
pub torn_before : {at n : ℕ} {old new : List ℕ} → Torn at n old new → (i : ℕ) → i < at → get_or new i 0 ≡ get_or old i 0
torn_before {at} {n} {old} {new} torn i lt =
    sym (get_or-take at new i 0 lt) ∙ ap (λ (l : List ℕ). get_or l i 0) torn.before ∙ get_or-take at old i 0 lt

-- places past a torn range keep their bytes
pub torn_after : {at n : ℕ} {old new : List ℕ} → Torn at n old new → (i : ℕ) → at + n ≤ i
    → get_or new i 0 ≡ get_or old i 0
torn_after {at} {n} {old} {new} torn i le =
    let place : at + n + (i - (at + n)) ≡ i = omega arith in
    sym (get_or-drop (at + n) new (i - (at + n)) 0 ∙ ap (λ k. get_or new k 0) place)
    ∙ ap (λ (l : List ℕ). get_or l (i - (at + n)) 0) torn.after
    ∙ get_or-drop (at + n) old (i - (at + n)) 0
    ∙ ap (λ k. get_or old k 0) place

-- c with the bytes that seen has in the range
abbrev pub restored : List ℕ → List ℕ → ℕ → ℕ → List ℕ
restored seen c at n = written c at (take n (drop at seen))

length-part : (seen : List ℕ) (at n : ℕ) → at + n ≤ length seen → length (take n (drop at seen)) ≡ n
length-part seen at n fits = omega (arith, length-take n (drop at seen), length-drop at seen)

pub length-restored : (seen c : List ℕ) (at n : ℕ) → at + n ≤ length seen → length c ≡ length seen
    → length (restored seen c at n) ≡ length c
length-restored seen c at n fits same =
    length-written c at (take n (drop at seen)) (omega (arith, length-part seen at n fits))

-- c is torn from it
pub torn_restored : (seen c : List ℕ) (at n : ℕ) → at + n ≤ length seen → length c ≡ length seen
    → Torn at n (restored seen c at n) c
torn_restored seen c at n fits same =
    let part = length-part seen at n fits in
    let by_write = torn_by_write c at (take n (drop at seen)) (omega (arith, part)) in
    record {
      before = sym by_write.before;
      after = sym (subst (λ k. drop (at + k) (restored seen c at n) ≡ drop (at + k) c) part by_write.after);
      same_length = sym by_write.same_length;
    }

pub restored_before : (seen c : List ℕ) (at n i : ℕ) → at + n ≤ length seen → length c ≡ length seen → i < at
    → get_or (restored seen c at n) i 0 ≡ get_or c i 0
restored_before seen c at n i fits same lt =
    written_before c at (take n (drop at seen)) i (omega (arith, length-part seen at n fits)) lt

pub restored_within : (seen c : List ℕ) (at n i : ℕ) → at + n ≤ length seen → length c ≡ length seen → at ≤ i
    → i < at + n → get_or (restored seen c at n) i 0 ≡ get_or seen i 0
restored_within seen c at n i fits same le lt =
    let part = length-part seen at n fits in
    let place : at + (i - at) ≡ i = omega arith in
    let inner : get_or (take n (drop at seen)) (i - at) 0 ≡ get_or (drop at seen) (i - at) 0 =
    get_or-take n (drop at seen) (i - at) 0 (omega arith) in
    written_within c at (take n (drop at seen)) i (omega (arith, part)) le (omega (arith, part))
    ∙ inner ∙ get_or-drop at seen (i - at) 0 ∙ ap (λ k. get_or seen k 0) place

pub restored_after : (seen c : List ℕ) (at n i : ℕ) → at + n ≤ length seen → length c ≡ length seen → at + n ≤ i
    → get_or (restored seen c at n) i 0 ≡ get_or c i 0
restored_after seen c at n i fits same le =
    let part = length-part seen at n fits in
    written_after c at (take n (drop at seen)) i (omega (arith, part)) (omega (arith, part))

-- what is written is read again
pub part_written : (old : List ℕ) (at : ℕ) (bytes : List ℕ) → at + length bytes ≤ length old
    → slice_range (written old at bytes) at (at + length bytes) ≡ bytes
part_written old at bytes fits =
    let n = at + length bytes - at in
    let count : n ≡ length bytes = omega arith in
    let long : length (take n (drop at (written old at bytes))) ≡ length bytes =
    omega (
      arith,
      length-take n (drop at (written old at bytes)),
      length-drop at (written old at bytes),
      length-written old at bytes fits,
    ) in
    ext_get_or 0 (take n (drop at (written old at bytes))) bytes long (λ k lt.
    let within : k < length bytes = omega (arith, lt, long) in
    let place : at + k - at ≡ k = omega arith in
    get_or-take n (drop at (written old at bytes)) k 0 (omega (arith, within, count))
    ∙ get_or-drop at (written old at bytes) k 0
    ∙ written_within old at bytes (at + k) fits (omega arith) (omega (arith, within))
    ∙ ap (λ p. get_or bytes p 0) place)

-- two lists that agree at each place out of a range differ by a torn range
pub torn_from_places : (at n : ℕ) (old new : List ℕ) → length new ≡ length old
    → ((i : ℕ) → i < at → get_or new i 0 ≡ get_or old i 0) → ((i : ℕ) → at + n ≤ i → get_or new i 0 ≡ get_or old i 0)
    → Torn at n old new
torn_from_places at n old new same before after = record {
  before = ext_get_or 0 (take at new) (take at old)
      (omega (arith, same, length-take at new, length-take at old)) (λ i lt.
      let within : i < at = omega (arith, lt, length-take at new) in
      get_or-take at new i 0 within ∙ before i within ∙ sym (get_or-take at old i 0 within));
  after = ext_get_or 0 (drop (at + n) new) (drop (at + n) old)
      (omega (arith, same, length-drop (at + n) new, length-drop (at + n) old)) (λ i lt.
      get_or-drop (at + n) new i 0 ∙ after (at + n + i) (omega arith) ∙ sym (get_or-drop (at + n) old i 0));
  same_length = same;
}

-- torn twice in one range is torn once
pub torn_twice : {at n : ℕ} {old mid new : List ℕ} → Torn at n old mid → Torn at n mid new → Torn at n old new
torn_twice first second = record {
  before = second.before ∙ first.before;
  after = second.after ∙ first.after;
  same_length = second.same_length ∙ first.same_length;
}

-- torn in a range is torn in each wider one
pub torn_wider : {at n : ℕ} {old new : List ℕ} → Torn at n old new → (from len : ℕ) → from ≤ at → at + n ≤ from + len
    → Torn from len old new
torn_wider {at} {n} {old} {new} torn from len le end = torn_from_places from len old new torn.same_length
    (λ i lt. torn_before torn i (omega (arith, le, lt))) (λ i past. torn_after torn i (omega (arith, end, past)))

-- what may be left is torn from what may be left
pub torn_from_none : {lists : List ℕ → Type 0} (at n : ℕ) {c : List ℕ} → lists c → TornFrom at n lists c
torn_from_none at n {c} left = (c, left, torn_none at n c)
