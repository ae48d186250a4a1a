-- What becomes of blocks by one that is put.
use Rattle.std.proofs.Common.{◌≡◌, ℕ, ◌+◌, ◌<◌, ◌≤◌, Bool, true, false, List, [], ◌∷◌, ◌++◌, length, map, eqb, ltb}
use Rattle.std.proofs.Common.{Option, Some, None, refl, ap, sym, ◌∙◌, subst, arith, if◌then◌else◌, inl, inr}
use Rattle.std.specs.Prelude.{is_some, filter, nat_lt, nat_le, ◌||◌, cond}
use Rattle.std.specs.Map.Calls.{RetainsPairs}
use Rattle.std.specs.Option.{option_or, option_map}
use Rattle.std.specs.Ordering.{nat_cmp, match_ordering}
use Rattle.std.specs.declared.cmp.Ordering.TheVariants.{Less, Equal, Greater}
use Rattle.std.specs.BTreeMap.{insert_entry, is_at}
use Rattle.std.specs.Map.{lookup}
use Rattle.std.proofs.lemmas.Bool.{eqb-true, eq-eqb, ne_eqb, cases_eq, cases_lt, cases_Bool}
use Rattle.std.proofs.lemmas.Bool.Decides.{nat_tests}
use Rattle.volume_codec.specs.Descriptor.{RiseWithin}
use Rattle.kept_blocks.specs.Blocks.{Blocks, homes_in, bytes_in, with_home, newest_in, without_run, cut_in, cut_to}

-- ---- the tree that keeps them

abbrev pub seen_as : {X : Type 0} → (X → List ℕ) → List (ℕ × X) → Blocks
seen_as f entries = map (λ entry. (entry.0, f entry.1)) entries

module _ {X : Type 0} (f : X → List ℕ) where
  put_step : (e : ℕ × X) (es : List (ℕ × X)) (k : ℕ) (v : X) (less same : Bool) → (same ≡ true → k ≡ e.0)
      → seen_as f (insert_entry nat_cmp es k v) ≡ with_home (seen_as f es) k (f v)
      → seen_as f (match_ordering (if less then Less else (if same then Equal else Greater)) ((k, v) ∷ e ∷ es)
      ((e.0, v) ∷ es) (e ∷ insert_entry nat_cmp es k v))
      ≡ (if less then (k, f v) ∷ (e.0, f e.1) ∷ seen_as f es
      else (if same then (k, f v) ∷ seen_as f es else (e.0, f e.1) ∷ with_home (seen_as f es) k (f v)))
  put_step e es k v true same is rest = refl
  put_step e es k v false true is rest = ap (λ n. (n, f v) ∷ seen_as f es) (sym (is refl))
  put_step e es k v false false is rest = ap (λ (l : Blocks). (e.0, f e.1) ∷ l) rest

  -- to insert an entry is to put its block
  pub seen_put : (es : List (ℕ × X)) (k : ℕ) (v : X)
      → seen_as f (insert_entry nat_cmp es k v) ≡ with_home (seen_as f es) k (f v)
  seen_put [] k v = refl
  seen_put (e ∷ es) k v = put_step e es k v (ltb k e.0) (eqb k e.0) (eqb-true k e.0) (seen_put es k v)

  -- to look for a key is to look for its block
  pub seen_get : (es : List (ℕ × X)) (k : ℕ) → option_map f (lookup (is_at (nat_cmp k)) es) ≡ bytes_in (seen_as f es) k
  seen_get [] k = refl
  seen_get (e ∷ es) k = elim (cases_eq k e.0) [
    | inl same ↦
        (let is : eqb k e.0 ≡ true = eq-eqb k e.0 same in
        let less : ltb k e.0 ≡ false = grind (arith, nat_tests) in
        rw (less, is) refl)
    | inr other ↦
        (let is : eqb k e.0 ≡ false = ne_eqb k e.0 other in
        elim (cases_Bool (ltb k e.0)) [
          | inl less ↦ rw (less, is) (seen_get es k)
          | inr more ↦ rw (more, is) (seen_get es k)
        ])
  ]

  -- to filter entries by their keys is to filter blocks
  pub seen_without : (low high : ℕ) (es : List (ℕ × X))
      → seen_as f (filter (λ e. nat_lt e.0 low || nat_le high e.0) es) ≡ without_run (seen_as f es) low high
  seen_without low high [] = refl
  seen_without low high (e ∷ es) = elim (cases_Bool (nat_lt e.0 low || nat_le high e.0)) [
    | inl kept ↦ rw kept (ap (λ (l : Blocks). (e.0, f e.1) ∷ l) (seen_without low high es))
    | inr gone ↦ rw gone (seen_without low high es)
  ]

  -- a closure that cuts the value of one key
  pub seen_cut : {F : Type 0} (T : F → ℕ → X → Bool → X → F → Type 0) (home n : ℕ) (g : F)
      → ((k : ℕ) (v : X) (b : Bool) (w : X) (g' : F) → T g k v b w g'
      → (b ≡ true) × (f w ≡ (if eqb k home then cut_to n (f v) else f v)) × (g' ≡ g))
      → (es kept : List (ℕ × X)) → RetainsPairs T g es kept → seen_as f kept ≡ cut_in (seen_as f es) home n
  seen_cut T home n g each [] kept r = ap (seen_as f) r
  seen_cut T home n g each (e ∷ es) kept r =
      let a = each e.0 e.1 r.0 r.1 r.2 r.4 in
      let rest = seen_cut T home n g each es r.3 (subst (λ u. RetainsPairs T u es r.3) a.2 r.5) in
      ap (seen_as f) (r.6 ∙ ap (λ b. cond b ((e.0, r.1) ∷ r.3) r.3) a.0)
      ∙ (λ i. (e.0, a.1 i) ∷ rest i)

-- ---- what is found

pub bytes_put : (blocks : Blocks) (k : ℕ) (v : List ℕ) (q : ℕ)
    → bytes_in (with_home blocks k v) q ≡ (if eqb q k then Some v else bytes_in blocks q)
bytes_put [] k v q = refl
bytes_put (e ∷ es) k v q = grind (arith, nat_tests, bytes_put es k v q)

pub absent_below : (blocks : Blocks) (low high k : ℕ) → RiseWithin low high (homes_in blocks) → k < low
    → bytes_in blocks k ≡ None
absent_below [] low high k rising below = refl
absent_below (e ∷ es) low high k rising below =
    let rest = absent_below es (e.0 + 1) high k rising.2 (omega (arith, rising.0)) in
    let other : eqb k e.0 ≡ false = ne_eqb k e.0 (λ same. omega (arith, rising.0)) in
    rw other rest

-- ---- order and number

pub rising_put : (blocks : Blocks) (low high k : ℕ) (v : List ℕ) → RiseWithin low high (homes_in blocks) → low ≤ k
    → k < high → RiseWithin low high (homes_in (with_home blocks k v))
rising_put [] low high k v rising le lt = (le, lt, tt)
rising_put (e ∷ es) low high k v rising le lt = elim (cases_lt k e.0) [
  | inl less ↦ (let is : ltb k e.0 ≡ true = grind (arith, nat_tests) in
      rw is (le, lt, (omega arith, rising.1, rising.2)))
  | inr more ↦
      (let is : ltb k e.0 ≡ false = grind (arith, nat_tests) in
      elim (cases_eq k e.0) [
        | inl same ↦ (let same_is : eqb k e.0 ≡ true = eq-eqb k e.0 same in
            rw (is, same_is) (le, lt, subst (λ n. RiseWithin (n + 1) high (homes_in es)) (sym same) rising.2))
        | inr other ↦ (let other_is : eqb k e.0 ≡ false = ne_eqb k e.0 other in
            rw (is, other_is) (rising.0, rising.1, rising_put es (e.0 + 1) high k v rising.2 (omega arith) lt))
      ])
]

pub length_put : (blocks : Blocks) (low high k : ℕ) (v : List ℕ) → RiseWithin low high (homes_in blocks)
    → length (with_home blocks k v) ≡ (if is_some (bytes_in blocks k) then length blocks else length blocks + 1)
length_put [] low high k v rising = refl
length_put (e ∷ es) low high k v rising = elim (cases_lt k e.0) [
  | inl less ↦ (let is : ltb k e.0 ≡ true = grind (arith, nat_tests) in
      let other : eqb k e.0 ≡ false = ne_eqb k e.0 (λ same. omega arith) in
      let none = absent_below es (e.0 + 1) high k rising.2 (omega arith) in
      rw (is, other, none) (omega arith))
  | inr more ↦
      (let is : ltb k e.0 ≡ false = grind (arith, nat_tests) in
      elim (cases_eq k e.0) [
        | inl same ↦ (let same_is : eqb k e.0 ≡ true = eq-eqb k e.0 same in rw (is, same_is) refl)
        | inr other ↦ (let other_is : eqb k e.0 ≡ false = ne_eqb k e.0 other in
            let rest = length_put es (e.0 + 1) high k v rising.2 in
            rw (is, other_is) (grind (arith, rest)))
      ])
]

-- ---- lists of blocks, the oldest first

or_none : (o : Option (List ℕ)) → option_or None o ≡ option_or o None
or_none None = refl
or_none (Some x) = refl

or_assoc : (a b c : Option (List ℕ)) → option_or (option_or a b) c ≡ option_or a (option_or b c)
or_assoc None b c = refl
or_assoc (Some x) b c = refl

pub newest_push : (records : List Blocks) (blocks : Blocks) (k : ℕ)
    → newest_in (records ++ blocks ∷ []) k ≡ option_or (bytes_in blocks k) (newest_in records k)
newest_push [] blocks k = or_none (bytes_in blocks k)
newest_push (first ∷ records) blocks k =
    ap (λ o. option_or o (bytes_in first k)) (newest_push records blocks k)
    ∙ or_assoc (bytes_in blocks k) (newest_in records k) (bytes_in first k)

pub homes_seen : {X : Type 0} (f : X → List ℕ) (es : List (ℕ × X)) → homes_in (seen_as f es) ≡ map (λ e. e.0) es
homes_seen f [] = refl
homes_seen f (e ∷ es) = ap (λ (l : List ℕ). e.0 ∷ l) (homes_seen f es)
