-- The spaces in a list of slots, and what an edit of a slot makes of them.
use Rattle.std.proofs.Common.{◌≡◌, ◌≢◌, ℕ, zero, suc, ◌+◌, ◌<◌, ◌≤◌, ◌&&◌, ◌⊎◌, Bool, true, false}
use Rattle.std.proofs.Common.{cond, eqb, T, List, [], ◌∷◌, ◌++◌, length, get_or, set, Option, Some}
use Rattle.std.proofs.Common.{None, is_some, unwrap_or, refl, sym, ap, ◌∙◌, subst, inl, inr, arith}
use Rattle.std.specs.Option.{option_map, option_copied, IfSome, IfNone}
use Rattle.std.specs.Borrow.{Bor}
use Rattle.std.specs.Ordering.{nat_cmp, is_lt}
use Rattle.std.specs.FinMap as maps
use Rattle.std.specs.FinMap.{find, is_sorted}
use Rattle.std.specs.FinMap.Entries.{below_all}
use Rattle.std.proofs.lemmas.Bool.{cases_eq, cases_lt, false≢true}
use Rattle.std.proofs.lemmas.Bool.Decides.{nat_tests}
use Rattle.std.proofs.lemmas.List.{get_or_read, get_or-set_same, get_or-set_other, get_or_past}
use Rattle.spaces.specs.Spaces.{empty_space, has_space, space_at, first_spaces, with_space}
use Rattle.spaces.specs.inside.Slots.{SpaceState, space_of, slot_at, listed_from, spaces_of, IsFound, IsMissing}
use Rattle.spaces.proofs.SpacesLaws.{same_spaces, get-with_space, get-remove}
use Rattle.spaces.proofs.Members.{find-cons}

-- ---- the spaces in their order

both_true : (a b : Bool) → T a → T b → T (a && b)
both_true true b p q = q
both_true false b p q = p

below_listed : (x i : ℕ) (slots : List (Option SpaceState)) → x < i → T (below_all nat_cmp x (listed_from i slots))
below_listed x i [] less = tt
below_listed x i (None ∷ slots) less = below_listed x (i + 1) slots (omega arith)
below_listed x i (Some s ∷ slots) less =
    both_true (is_lt (nat_cmp x i)) _ (let lt : is_lt (nat_cmp x i) ≡ true = grind (arith, nat_tests) in
    subst T (sym lt) tt) (below_listed x (i + 1) slots (omega arith))

sorted_listed : (i : ℕ) (slots : List (Option SpaceState)) → T (is_sorted nat_cmp (listed_from i slots))
sorted_listed i [] = tt
sorted_listed i (None ∷ slots) = sorted_listed (i + 1) slots
sorted_listed i (Some s ∷ slots) =
    both_true _ _ (below_listed i (i + 1) slots (omega arith)) (sorted_listed (i + 1) slots)

-- the entries of the spaces are those of the slots, in their order
pub entries-spaces_of : (slots : List (Option SpaceState)) → maps.entries (spaces_of slots) ≡ listed_from 0 slots
unfolding spaces_of
entries-spaces_of slots = maps.entries-from_sorted nat_cmp (listed_from 0 slots) (sorted_listed 0 slots)

-- a space before the first of these isn't found among them
find-listed_below : (q i : ℕ) (slots : List (Option SpaceState)) → q < i → find nat_cmp q (listed_from i slots) ≡ None
find-listed_below q i [] less = refl
find-listed_below q i (None ∷ slots) less = find-listed_below q (i + 1) slots (omega arith)
find-listed_below q i (Some s ∷ slots) less =
    find-cons q (i, space_of s) (listed_from (i + 1) slots)
    ∙ (let other : eqb q i ≡ false = grind (arith, nat_tests) in
    ap (λ b. cond b (Some (space_of s)) (find nat_cmp q (listed_from (i + 1) slots))) other)
    ∙ find-listed_below q (i + 1) slots (omega arith)

-- the k-th of them is what its slot has
find-listed : (slots : List (Option SpaceState)) (i k q : ℕ) → q ≡ i + k
    → find nat_cmp q (listed_from i slots) ≡ option_map space_of (slot_at slots k)
find-listed [] i k q is = ap (option_map space_of) (sym (get_or_past {X = Option SpaceState} [] k None (omega arith)))
find-listed (None ∷ slots) i zero q is = find-listed_below q (i + 1) slots (omega arith)
find-listed (None ∷ slots) i (suc k) q is = find-listed slots (i + 1) k q (omega arith)
find-listed (Some s ∷ slots) i zero q is =
    find-cons q (i, space_of s) (listed_from (i + 1) slots)
    ∙ (let same : eqb q i ≡ true = grind (arith, nat_tests) in
    ap (λ b. cond b (Some (space_of s)) (find nat_cmp q (listed_from (i + 1) slots))) same)
find-listed (Some s ∷ slots) i (suc k) q is =
    find-cons q (i, space_of s) (listed_from (i + 1) slots)
    ∙ (let other : eqb q i ≡ false = grind (arith, nat_tests) in
    ap (λ b. cond b (Some (space_of s)) (find nat_cmp q (listed_from (i + 1) slots))) other)
    ∙ find-listed slots (i + 1) k q (omega arith)

-- the space of a PCID is what its slot has
pub get-spaces_of : (slots : List (Option SpaceState)) (q : ℕ)
    → maps.get (spaces_of slots) q ≡ option_map space_of (slot_at slots q)
unfolding spaces_of
get-spaces_of slots q =
    maps.get-from_sorted nat_cmp (listed_from 0 slots) q (sorted_listed 0 slots)
    ∙ find-listed slots 0 q q (omega arith)

is_some-map : {X Y : Type 0} (f : X → Y) (o : Option X) → is_some (option_map f o) ≡ is_some o
is_some-map f None = refl
is_some-map f (Some x) = refl

pub has_space-spaces_of : (slots : List (Option SpaceState)) (q : ℕ)
    → has_space (spaces_of slots) q ≡ is_some (slot_at slots q)
has_space-spaces_of slots q = ap is_some (get-spaces_of slots q) ∙ is_some-map space_of (slot_at slots q)

pub space_at-spaces_of : (slots : List (Option SpaceState)) (q : ℕ)
    → space_at (spaces_of slots) q ≡ unwrap_or (option_map space_of (slot_at slots q)) empty_space
space_at-spaces_of slots q = ap (λ o. unwrap_or o empty_space) (get-spaces_of slots q)

-- a slot with a space, and one without
pub found_in_slot : (slots : List (Option SpaceState)) (q : ℕ) (s : SpaceState) → slot_at slots q ≡ Some s
    → IsFound (spaces_of slots) q s
found_in_slot slots q s is = record {
  there = has_space-spaces_of slots q ∙ ap is_some is;
  same = space_at-spaces_of slots q ∙ ap (λ o. unwrap_or (option_map space_of o) empty_space) is;
}

pub missing_in_slot : (slots : List (Option SpaceState)) (q : ℕ) → slot_at slots q ≡ None
    → IsMissing (spaces_of slots) q
missing_in_slot slots q is = record {
  missing = has_space-spaces_of slots q ∙ ap is_some is;
  nothing = space_at-spaces_of slots q ∙ ap (λ o. unwrap_or (option_map space_of o) empty_space) is;
}

-- what a look at a slot gives
pub found_by : (slots : List (Option SpaceState)) (q : ℕ) (r : Option (Bor SpaceState))
    → option_copied r ≡ slot_at slots q
    → IfSome r (λ s. IsFound (spaces_of slots) q s.now)
found_by slots q None is = tt
found_by slots q (Some s) is = found_in_slot slots q s.now (sym is)

pub missing_by : (slots : List (Option SpaceState)) (q : ℕ) (r : Option (Bor SpaceState))
    → option_copied r ≡ slot_at slots q
    → IfNone r (IsMissing (spaces_of slots) q)
missing_by slots q None is = missing_in_slot slots q (sym is)
missing_by slots q (Some s) is = tt

-- past the last slot there is none
pub slot_at-past : (slots : List (Option SpaceState)) (q : ℕ) → length slots ≤ q → slot_at slots q ≡ None
slot_at-past slots q past = get_or_past slots q None past

pub within_slots : (slots : List (Option SpaceState)) (q : ℕ) → has_space (spaces_of slots) q ≡ true → q < length slots
within_slots slots q there = elim (cases_lt q (length slots)) [
  | inl less ↦ less
  | inr past ↦
      absurd (false≢true (sym (ap is_some (slot_at-past slots q past)) ∙ sym (has_space-spaces_of slots q) ∙ there))
]

-- what an index finds is the slot
pub indexed_slot : (slots : List (Option SpaceState)) (q : ℕ) (found : Option SpaceState)
    → q < length slots → found ≡ get_or slots q found
    → slot_at slots q ≡ found
indexed_slot slots q found within is = sym (get_or_read slots q found within is None)

-- a space that is there isn't missing in its slot
pub never_missing : (slots : List (Option SpaceState)) (q : ℕ) (found : Option SpaceState)
    → has_space (spaces_of slots) q ≡ true → found ≡ get_or slots q found → found ≡ None
    → ⊥
never_missing slots q found there is none =
    false≢true (sym (ap is_some (indexed_slot slots q found (within_slots slots q there) is ∙ none))
    ∙ sym (has_space-spaces_of slots q) ∙ there)

-- space 0 has the first slot
pub first_slot_is_there : (slots : List (Option SpaceState))
    (slot : Option SpaceState) (later : List (Option SpaceState))
    → has_space (spaces_of slots) 0 ≡ true → slots ≡ slot ∷ later → slot ≡ None
    → ⊥
first_slot_is_there slots slot later there are none =
    false≢true (sym (ap (λ l. is_some (slot_at l 0)) are ∙ ap is_some none) ∙ sym (has_space-spaces_of slots 0) ∙ there)

-- the slot in which it is found
pub slot_is : (slots : List (Option SpaceState)) (q : ℕ) (found : Option SpaceState) (s : SpaceState)
    → has_space (spaces_of slots) q ≡ true → found ≡ get_or slots q found → found ≡ Some s
    → slot_at slots q ≡ Some s
slot_is slots q found s there is some = indexed_slot slots q found (within_slots slots q there) is ∙ some

-- ---- edits of a slot

module _ (slots : List (Option SpaceState)) (n : ℕ) where
  slot_at-set_other : (slot : Option SpaceState) (q : ℕ) → q ≢ n → slot_at (set slots n slot) q ≡ slot_at slots q
  slot_at-set_other slot q other = get_or-set_other slots n q slot None other

  pub spaces_of-set : (s : SpaceState) → n < length slots
      → spaces_of (set slots n (Some s)) ≡ with_space (spaces_of slots) n (space_of s)
  spaces_of-set s within = same_spaces _ _ (λ q. get-spaces_of (set slots n (Some s)) q ∙ at q (cases_eq q n)
      ∙ sym (get-with_space (spaces_of slots) n (space_of s) q))
    where
      at : (q : ℕ) → (q ≡ n) ⊎ (q ≢ n)
          → option_map space_of (slot_at (set slots n (Some s)) q)
          ≡ cond (eqb q n) (Some (space_of s)) (maps.get (spaces_of slots) q)
      at q (inl same) =
          ap (λ k. option_map space_of (slot_at (set slots n (Some s)) k)) same
          ∙ ap (option_map space_of) (get_or-set_same slots n (Some s) None within)
          ∙ (let here : eqb q n ≡ true = grind (arith, nat_tests) in
          sym (ap (λ b. cond b (Some (space_of s)) (maps.get (spaces_of slots) q)) here))
      at q (inr other) =
          ap (option_map space_of) (slot_at-set_other (Some s) q other) ∙ sym (get-spaces_of slots q)
          ∙ (let apart : eqb q n ≡ false = grind (arith, nat_tests) in
          sym (ap (λ b. cond b (Some (space_of s)) (maps.get (spaces_of slots) q)) apart))

  pub spaces_of-clear : n < length slots → spaces_of (set slots n None) ≡ maps.remove (spaces_of slots) n
  spaces_of-clear within = same_spaces _ _
      (λ q. get-spaces_of (set slots n None) q ∙ at q (cases_eq q n) ∙ sym (get-remove (spaces_of slots) n q))
    where
      at : (q : ℕ) → (q ≡ n) ⊎ (q ≢ n)
          → option_map space_of (slot_at (set slots n None) q) ≡ cond (eqb q n) None (maps.get (spaces_of slots) q)
      at q (inl same) =
          ap (λ k. option_map space_of (slot_at (set slots n None) k)) same
          ∙ ap (option_map space_of) (get_or-set_same slots n None None within)
          ∙ (let here : eqb q n ≡ true = grind (arith, nat_tests) in
          sym (ap (λ b. cond b None (maps.get (spaces_of slots) q)) here))
      at q (inr other) =
          ap (option_map space_of) (slot_at-set_other None q other) ∙ sym (get-spaces_of slots q)
          ∙ (let apart : eqb q n ≡ false = grind (arith, nat_tests) in
          sym (ap (λ b. cond b None (maps.get (spaces_of slots) q)) apart))

-- one slot more
pub slot_at-push : (slots : List (Option SpaceState)) (slot : Option SpaceState) (q : ℕ)
    → slot_at (slots ++ slot ∷ []) q ≡ cond (eqb q (length slots)) slot (slot_at slots q)
slot_at-push [] slot zero = refl
slot_at-push [] slot (suc q) =
    get_or_past {X = Option SpaceState} [] q None (omega arith)
    ∙ sym (get_or_past {X = Option SpaceState} [] (suc q) None (omega arith))
    ∙ (let apart : eqb (suc q) 0 ≡ false = grind (arith, nat_tests) in
    sym (ap (λ b. cond b slot (slot_at [] (suc q))) apart))
slot_at-push (x ∷ slots) slot zero =
    let apart : eqb 0 (suc (length slots)) ≡ false = grind (arith, nat_tests) in
    sym (ap (λ b. cond b slot x) apart)
slot_at-push (x ∷ slots) slot (suc q) =
    let same : eqb q (length slots) ≡ eqb (suc q) (suc (length slots)) = grind (arith, nat_tests) in
    slot_at-push slots slot q ∙ ap (λ b. cond b slot (slot_at slots q)) same

pub slot_at-push_other : (slots : List (Option SpaceState)) (slot : Option SpaceState) (q : ℕ) → q ≢ length slots
    → slot_at (slots ++ slot ∷ []) q ≡ slot_at slots q
slot_at-push_other slots slot q other =
    slot_at-push slots slot q
    ∙ (let apart : eqb q (length slots) ≡ false = grind (arith, nat_tests) in
    ap (λ b. cond b slot (slot_at slots q)) apart)

pub spaces_of-push : (slots : List (Option SpaceState)) (s : SpaceState)
    → spaces_of (slots ++ Some s ∷ []) ≡ with_space (spaces_of slots) (length slots) (space_of s)
spaces_of-push slots s =
    same_spaces _ _
    (λ q. get-spaces_of (slots ++ Some s ∷ []) q ∙ ap (option_map space_of) (slot_at-push slots (Some s) q)
    ∙ by_test (eqb q (length slots)) q ∙ sym (get-with_space (spaces_of slots) (length slots) (space_of s) q))
  where
    by_test : (b : Bool) (q : ℕ)
        → option_map space_of (cond b (Some s) (slot_at slots q))
        ≡ cond b (Some (space_of s)) (maps.get (spaces_of slots) q)
    by_test true q = refl
    by_test false q = sym (get-spaces_of slots q)

pub spaces_of-none : spaces_of [] ≡ maps.empty
spaces_of-none = same_spaces _ _ (λ q.
    get-spaces_of [] q ∙ ap (option_map space_of) (slot_at-past [] q (omega arith)) ∙ sym (maps.get-empty nat_cmp q))

-- the first space alone
pub spaces_of-first : (s : SpaceState) → space_of s ≡ empty_space → spaces_of (Some s ∷ []) ≡ first_spaces
spaces_of-first s nothing = spaces_of-push [] s ∙ (λ i. with_space (spaces_of-none i) 0 (nothing i))
