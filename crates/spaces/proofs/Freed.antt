-- The bit of each slot without a space is set, and so the first bit that is set is that of the first free slot.
use Rattle.std.proofs.Common.{◌≡◌, ℕ, ◌<◌, ◌≤◌, ◌/◌, ◌%◌, true, false, cond, eqb, not, is_some}
use Rattle.std.proofs.Common.{List, [], ◌∷◌, ◌++◌, map, length, set, get_or, replicate, Option}
use Rattle.std.proofs.Common.{Some, None, refl, sym, ap, ◌∙◌, inl, inr, arith, length-append}
use Rattle.std.specs.Option.{option_map}
use Rattle.std.proofs.lemmas.Bool.{cases_eq, cases_lt, false≢true}
use Rattle.std.proofs.lemmas.Bool.Decides.{nat_tests}
use Rattle.std.proofs.lemmas.List.{get_or-set_same, get_or-set_other, get_or-replicate}
use Rattle.std.proofs.lemmas.List.{get_or_past, length-map, length-set, length-replicate}
use Rattle.std.proofs.lemmas.Nat.Bits.{bit_at-zero}
use Rattle.std.specs.Int.{bit_at}
use Rattle.std.proofs.Math.ListN.{get_or-map}
use Rattle.std.specs.Ordering.{nat_cmp}
use Rattle.std.specs.FinMap as maps
use Rattle.page_entry.specs.Entry.{Mapped}
use Rattle.page_table.specs.Bits.{is_set, IsSet, Marks}
use Rattle.spaces.specs.inside.Slots.{SpaceState, slot_at, edited, AreFreed, IsFirstFree}
use Rattle.spaces.proofs.SlotsLemmas.{found_in_slot, within_slots, slot_at-push, slot_at-past}

-- the same slots have spaces
pub freed_kept : (old new : List (Option SpaceState)) (freed : List ℕ) → AreFreed old freed
    → length new ≡ length old → ((q : ℕ) → is_some (slot_at new q) ≡ is_some (slot_at old q))
    → AreFreed new freed
freed_kept old new freed are size same = record {
  below = λ q within. are.below q (omega (arith, size)) ∙ ap not (sym (same q));
  past = λ q past. are.past q (omega (arith, size));
}

-- a space in the place of one
pub freed_same : (slots : List (Option SpaceState)) (freed : List ℕ) (n : ℕ) (s new : SpaceState)
    → AreFreed slots freed → slot_at slots n ≡ Some s
    → AreFreed (set slots n (Some new)) freed
freed_same slots freed n s new are is =
    freed_kept slots (set slots n (Some new)) freed are (length-set slots n (Some new)) (λ q. elim (cases_eq q n) [
      | inl same ↦ ap (λ k. is_some (slot_at (set slots n (Some new)) k)) same
          ∙ ap is_some
          (get_or-set_same slots n (Some new) None (within_slots slots n (found_in_slot slots n s is).there))
          ∙ sym (ap (λ k. is_some (slot_at slots k)) same ∙ ap is_some is)
      | inr other ↦ ap is_some (get_or-set_other slots n q (Some new) None other)
    ])

-- spaces whose entries are edited
pub freed_edited : (f : SpaceState → maps.FinMap nat_cmp Mapped) (slots : List (Option SpaceState)) (freed : List ℕ)
    → AreFreed slots freed
    → AreFreed (map (option_map (edited f)) slots) freed
freed_edited f slots freed are =
    freed_kept slots (map (option_map (edited f)) slots) freed are (length-map slots (option_map (edited f)))
    (λ q. ap is_some (get_or-map (option_map (edited f)) slots q None) ∙ by_slot (slot_at slots q))
  where
    by_slot : (o : Option SpaceState) → is_some (option_map (edited f) o) ≡ is_some o
    by_slot None = refl
    by_slot (Some s) = refl

-- another slot in the place of one, with its bit
pub freed_set : (slots : List (Option SpaceState)) (freed more : List ℕ) (n : ℕ) (slot : Option SpaceState)
    → AreFreed slots freed → n < length slots → Marks n (not (is_some slot)) freed more
    → AreFreed (set slots n slot) more
freed_set slots freed more n slot are within marks = record {
  below = λ q low. marks.bits q ∙ elim (cases_eq q n) [
    | inl same ↦
        let e : eqb q n ≡ true = grind (arith, nat_tests) in
        ap (λ b. cond b (not (is_some slot)) (is_set freed q)) e
        ∙ sym (ap (λ k. not (is_some (slot_at (set slots n slot) k))) same
        ∙ ap (λ o. not (is_some o)) (get_or-set_same slots n slot None within))
    | inr other ↦
        let e : eqb q n ≡ false = grind (arith, nat_tests) in
        ap (λ b. cond b (not (is_some slot)) (is_set freed q)) e
        ∙ are.below q (omega (arith, length-set slots n slot))
        ∙ sym (ap (λ o. not (is_some o)) (get_or-set_other slots n q slot None other))
  ];
  past = λ q past.
      let e : eqb q n ≡ false = (let size = length-set slots n slot in grind (arith, nat_tests)) in
      marks.bits q
      ∙ ap (λ b. cond b (not (is_some slot)) (is_set freed q)) e
      ∙ are.past q (omega (arith, length-set slots n slot));
}

-- one more space
pub freed_pushed : (slots : List (Option SpaceState)) (freed : List ℕ) (s : SpaceState) → AreFreed slots freed
    → AreFreed (slots ++ Some s ∷ []) freed
freed_pushed slots freed s are = record {
  below = λ q low. elim (cases_eq q (length slots)) [
    | inl same ↦
        let e : eqb q (length slots) ≡ true = grind (arith, nat_tests) in
        are.past q (omega arith)
        ∙ sym
        (ap (λ o. not (is_some o)) (slot_at-push slots (Some s) q ∙ ap (λ b. cond b (Some s) (slot_at slots q)) e))
    | inr other ↦
        let e : eqb q (length slots) ≡ false = grind (arith, nat_tests) in
        let size = length-append slots (Some s ∷ []) in
        are.below q (omega arith)
        ∙ sym
        (ap (λ o. not (is_some o)) (slot_at-push slots (Some s) q ∙ ap (λ b. cond b (Some s) (slot_at slots q)) e))
  ];
  past = λ q past. let size = length-append slots (Some s ∷ []) in are.past q (omega arith);
}

-- space 0 alone
pub freed_first : (s : SpaceState) (freed : List ℕ) → ((q : ℕ) → is_set freed q ≡ false) → AreFreed (Some s ∷ []) freed
freed_first s freed none =
    freed_pushed [] freed s (record { below = λ q low. absurd (omega arith); past = λ q past. none q })

zeros_at : (k i : ℕ) → ◌≡◌ {A = ℕ} (get_or (replicate k 0) i 0) 0
zeros_at k i = elim (cases_lt i k) [
  | inl below ↦ get_or-replicate k i 0 0 below
  | inr past ↦ get_or_past (replicate k 0) i 0 (omega (arith, length-replicate {A = ℕ} k 0))
]

pub none_freed : (q : ℕ) → is_set (replicate 64 0) q ≡ false
none_freed q = ap (λ n. eqb (bit_at n (q % 64)) 1) (zeros_at 64 (q / 64)) ∙ ap (λ n. eqb n 1) (bit_at-zero (q % 64))

-- ---- the first free slot

not_some : (o : Option SpaceState) → not (is_some o) ≡ true → o ≡ None
not_some None e = refl
not_some (Some s) e = cc

some_of : (o : Option SpaceState) → not (is_some o) ≡ false → is_some o ≡ true
some_of None e = cc
some_of (Some s) e = refl

pub free_found : (slots : List (Option SpaceState)) (freed : List ℕ) (at : ℕ)
    → AreFreed slots freed → IsSet freed 0 4096 at
    → IsFirstFree slots at
free_found slots freed at are found = record {
  within = omega (arith, below);
  free = not_some (slot_at slots at) (sym (are.below at below) ∙ found.here);
  taken = λ lower less. some_of (slot_at slots lower)
      (sym (are.below lower (omega (arith, below))) ∙ found.before lower (omega arith) less);
}
  where
    below : at < length slots
    below = elim (cases_lt at (length slots)) [
      | inl low ↦ low
      | inr past ↦ absurd (false≢true (sym (are.past at past) ∙ found.here))
    ]

pub free_past : (slots : List (Option SpaceState)) (freed : List ℕ) → AreFreed slots freed
    → length slots ≤ 4096 → ((i : ℕ) → 0 ≤ i → i < 4096 → is_set freed i ≡ false)
    → IsFirstFree slots (length slots)
free_past slots freed are few none = record {
  within = omega arith;
  free = slot_at-past slots (length slots) (omega arith);
  taken = λ lower less.
      some_of (slot_at slots lower) (sym (are.below lower less) ∙ none lower (omega arith) (omega arith));
}
