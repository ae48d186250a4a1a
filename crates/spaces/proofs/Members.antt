-- What is in a list that is made of others, and in the entries of a finite map.
use Rattle.std.proofs.Common.{◌≡◌, ℕ, zero, suc, ◌<◌, ◌&&◌, ◌||◌, ◌⊎◌, Bool, true, false, cond, T, List, [], ◌∷◌}
use Rattle.std.proofs.Common.{map, filter, Some, refl, sym, ap, ◌∙◌, subst, inl, inr, ⊎_elim, arith, Contains, eqb}
use Rattle.std.specs.List.{flat_map, list_any}
use Rattle.std.specs.Ordering.{nat_cmp, is_lt}
use Rattle.std.specs.Cmp.{unsigned_tied}
use Rattle.std.specs.FinMap as maps
use Rattle.std.specs.FinMap.{find, is_sorted}
use Rattle.std.specs.FinMap.Entries.{below_all}
use Rattle.std.proofs.lemmas.Bool.{false≢true}
use Rattle.std.proofs.lemmas.Bool.Decides.{nat_tests}
use Rattle.std.proofs.lemmas.List.Elements.{Contains-append_left, Contains-append_right, Contains-append_cases}

module _ {X : Type 0} where
  pub Contains-head : (x : X) (xs : List X) → Contains (x ∷ xs) x
  Contains-head x xs = (0, omega arith, refl)

  pub Contains-tail : (x : X) (xs : List X) (y : X) → Contains xs y → Contains (x ∷ xs) y
  Contains-tail x xs y (k, within, is) = (suc k, omega arith, is)

  pub Contains-cases : (x : X) (xs : List X) (y : X) → Contains (x ∷ xs) y → (x ≡ y) ⊎ Contains xs y
  Contains-cases x xs y (zero, within, is) = inl is
  Contains-cases x xs y (suc k, within, is) = inr (k, omega arith, is)

  pub not_in_none : (y : X) → Contains [] y → ⊥
  not_in_none y (k, within, is) = absurd (omega arith)

  -- what passes a filter
  pub Contains-filter : (p : X → Bool) (xs : List X) (y : X) → Contains xs y → p y ≡ true → Contains (filter p xs) y
  Contains-filter p [] y has passes = absurd (not_in_none y has)
  Contains-filter p (x ∷ xs) y has passes =
      elim (p x) as (λ b. p x ≡ b → Contains (cond b (x ∷ filter p xs) (filter p xs)) y) [
        | true ↦ λ _. ⊎_elim (λ same. subst (Contains (x ∷ filter p xs)) same (Contains-head x (filter p xs)))
            (λ later. Contains-tail x (filter p xs) y (Contains-filter p xs y later passes)) (Contains-cases x xs y has)
        | false ↦ λ fails. ⊎_elim (λ same. absurd (false≢true (sym fails ∙ ap p same ∙ passes)))
            (λ later. Contains-filter p xs y later passes) (Contains-cases x xs y has)
      ] refl

  pub in_filter : (p : X → Bool) (xs : List X) (y : X) → Contains (filter p xs) y → Contains xs y × (p y ≡ true)
  in_filter p [] y has = absurd (not_in_none y has)
  in_filter p (x ∷ xs) y has = elim (p x)
      as (λ b. p x ≡ b → Contains (cond b (x ∷ filter p xs) (filter p xs)) y → Contains (x ∷ xs) y × (p y ≡ true)) [
        | true ↦ λ passes has. ⊎_elim
            (λ same. let is : x ≡ y = same in
            (subst (Contains (x ∷ xs)) is (Contains-head x xs), ap p (sym is) ∙ passes))
            (λ later. let rest = in_filter p xs y later in (Contains-tail x xs y rest.0, rest.1))
            (Contains-cases x (filter p xs) y has)
        | false ↦ λ _ has. let rest = in_filter p xs y has in (Contains-tail x xs y rest.0, rest.1)
      ] refl has

  -- a test that finds something of a list
  pub found : (p : X → Bool) (xs : List X) (y : X) → Contains xs y → p y ≡ true → list_any p xs ≡ true
  found p [] y has passes = absurd (not_in_none y has)
  found p (x ∷ xs) y has passes = ⊎_elim
      (λ same. ap (λ b. b || list_any p xs) (ap p same ∙ passes))
      (λ later. either (p x) (list_any p xs) (found p xs y later passes))
      (Contains-cases x xs y has)
    where
      either : (a b : Bool) → b ≡ true → (a || b) ≡ true
      either true b h = refl
      either false b h = h

  pub find_in : (p : X → Bool) (xs : List X) → list_any p xs ≡ true → (y : X) × Contains xs y × (p y ≡ true)
  find_in p [] any = absurd (false≢true any)
  find_in p (x ∷ xs) any =
      elim (p x) as (λ b. p x ≡ b → (b || list_any p xs) ≡ true → (y : X) × Contains (x ∷ xs) y × (p y ≡ true)) [
        | true ↦ λ passes _. (x, Contains-head x xs, passes)
        | false ↦ λ _ any. let rest = find_in p xs any in (rest.0, Contains-tail x xs rest.0 rest.1, rest.2)
      ] refl any

module _ {X Y : Type 0} where
  pub Contains-map : (f : X → Y) (xs : List X) (x : X) → Contains xs x → Contains (map f xs) (f x)
  Contains-map f [] x has = absurd (not_in_none x has)
  Contains-map f (z ∷ xs) x has = ⊎_elim
      (λ same. subst (λ y. Contains (f z ∷ map f xs) (f y)) same (Contains-head (f z) (map f xs)))
      (λ later. Contains-tail (f z) (map f xs) (f x) (Contains-map f xs x later))
      (Contains-cases z xs x has)

  pub in_map : (f : X → Y) (xs : List X) (y : Y) → Contains (map f xs) y → (x : X) × Contains xs x × (f x ≡ y)
  in_map f [] y has = absurd (not_in_none y has)
  in_map f (x ∷ xs) y has = ⊎_elim
      (λ same. (x, Contains-head x xs, same))
      (λ later. let rest = in_map f xs y later in (rest.0, Contains-tail x xs rest.0 rest.1, rest.2))
      (Contains-cases (f x) (map f xs) y has)

  pub Contains-flat_map : (f : X → List Y) (xs : List X) (x : X) (y : Y) → Contains xs x → Contains (f x) y
      → Contains (flat_map f xs) y
  Contains-flat_map f [] x y has here = absurd (not_in_none x has)
  Contains-flat_map f (z ∷ xs) x y has here = ⊎_elim
      (λ same. Contains-append_left (f z) (flat_map f xs) y (subst (λ w. Contains (f w) y) (sym same) here))
      (λ later. Contains-append_right (f z) (flat_map f xs) y (Contains-flat_map f xs x y later here))
      (Contains-cases z xs x has)

  pub in_flat_map : (f : X → List Y) (xs : List X) (y : Y) → Contains (flat_map f xs) y
      → (x : X) × Contains xs x × Contains (f x) y
  in_flat_map f [] y has = absurd (not_in_none y has)
  in_flat_map f (x ∷ xs) y has = ⊎_elim
      (λ here. (x, Contains-head x xs, here))
      (λ later. let rest = in_flat_map f xs y later in (rest.0, Contains-tail x xs rest.0 rest.1, rest.2))
      (Contains-append_cases (f x) (flat_map f xs) y has)

-- ---- entries by their keys

T_left : (a b : Bool) → T (a && b) → T a
T_left true b h = tt
T_left false b h = h

T_right : (a b : Bool) → T (a && b) → T b
T_right true b h = h
T_right false b h = absurd h

module _ {X : Type 0} where
  pub find-cons : (q : ℕ) (e : ℕ × X) (es : List (ℕ × X))
      → find nat_cmp q (e ∷ es) ≡ cond (eqb q e.0) (Some e.1) (find nat_cmp q es)
  find-cons q e es = ap (λ b. cond b (Some e.1) (find nat_cmp q es)) (unsigned_tied q e.0)

  below_in : (x : ℕ) (es : List (ℕ × X)) → T (below_all nat_cmp x es) → (e : ℕ × X) → Contains es e → x < e.0
  below_in x [] h e has = absurd (not_in_none e has)
  below_in x (f ∷ es) h e has =
      let less : T (is_lt (nat_cmp x f.0)) = T_left _ _ h in
      let lt : x < f.0 = grind (arith, nat_tests) in
      ⊎_elim (λ same. subst (λ (g : ℕ × X). x < g.0) same lt) (λ later. below_in x es (T_right _ _ h) e later)
      (Contains-cases f es e has)

  in_sorted : (es : List (ℕ × X)) → T (is_sorted nat_cmp es) → (e : ℕ × X) → Contains es e
      → find nat_cmp e.0 es ≡ Some e.1
  in_sorted [] h e has = absurd (not_in_none e has)
  in_sorted (f ∷ es) h e has = ⊎_elim
      (λ same. find-cons e.0 f es ∙ (let here : eqb e.0 f.0 ≡ true = let k : f.0 ≡ e.0 = ap (λ (g : ℕ × X). g.0) same in
      grind (arith, nat_tests) in
      ap (λ b. cond b (Some f.1) (find nat_cmp e.0 es)) here ∙ ap (λ (g : ℕ × X). Some g.1) same))
      (λ later. find-cons e.0 f es ∙ (let lt : f.0 < e.0 = below_in f.0 es (T_left _ _ h) e later in
      let other : eqb e.0 f.0 ≡ false = grind (arith, nat_tests) in
      ap (λ b. cond b (Some f.1) (find nat_cmp e.0 es)) other ∙ in_sorted es (T_right _ _ h) e later))
      (Contains-cases f es e has)

  found_in : (es : List (ℕ × X)) (q : ℕ) (x : X) → find nat_cmp q es ≡ Some x → Contains es (q, x)
  found_in [] q x is = cc
  found_in (e ∷ es) q x is = elim (eqb q e.0)
      as (λ b. eqb q e.0 ≡ b → cond b (Some e.1) (find nat_cmp q es) ≡ Some x → Contains (e ∷ es) (q, x)) [
        | true ↦ λ same is.
            let key : e.0 ≡ q = grind (arith, nat_tests) in
            let value : e.1 ≡ x = cc in
            subst (Contains (e ∷ es)) (λ i. (key i, value i)) (Contains-head e es)
        | false ↦ λ _ is. Contains-tail e es (q, x) (found_in es q x is)
      ] refl (sym (find-cons q e es) ∙ is)

  -- the entries of a map are what it has at each key
  pub in_entries : (m : maps.FinMap nat_cmp X) (e : ℕ × X) → Contains (maps.entries m) e → maps.get m e.0 ≡ Some e.1
  in_entries m e has = maps.get-entries m e.0 ∙ in_sorted (maps.entries m) (maps.entries_sorted m) e has

  pub Contains-entries : (m : maps.FinMap nat_cmp X) (q : ℕ) (x : X) → maps.get m q ≡ Some x
      → Contains (maps.entries m) (q, x)
  Contains-entries m q x is = found_in (maps.entries m) q x (sym (maps.get-entries m q) ∙ is)
