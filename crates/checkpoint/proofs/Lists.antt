-- Lists that have an element which passes a test.
use Rattle.std.proofs.Common.{zero, suc, ◌≡◌, ◌||◌, ◌⊎◌, Bool, true, false, List}
use Rattle.std.proofs.Common.{[], ◌∷◌, Contains, refl, ap, ◌∙◌, inl, inr, arith}
use Rattle.std.specs.List.{list_any}
use Rattle.std.proofs.lemmas.Bool.{or_left, or_right}

pub Contains-head : {X : Type 0} (x : X) (xs : List X) → Contains (x ∷ xs) x
Contains-head x xs = (0, omega arith, refl)

pub Contains-tail : {X : Type 0} (y : X) (xs : List X) (x : X) → Contains xs x → Contains (y ∷ xs) x
Contains-tail y xs x (k, within, is) = (suc k, omega arith, is)

pub Contains-cons_cases : {X : Type 0} (y : X) (ys : List X) (x : X) → Contains (y ∷ ys) x → (y ≡ x) ⊎ Contains ys x
Contains-cons_cases y ys x (zero, within, is) = inl is
Contains-cons_cases y ys x (suc k, within, is) = inr (k, omega arith, is)

-- an element that passes makes the test pass
pub list_any-Contains : {X : Type 0} (test : X → Bool) (xs : List X) (x : X) → Contains xs x → test x ≡ true
    → list_any test xs ≡ true
list_any-Contains test [] x (k, within, is) passes = absurd (omega arith)
list_any-Contains test (y ∷ ys) x (zero, within, is) passes = or_left (test y) (list_any test ys) (ap test is ∙ passes)
list_any-Contains test (y ∷ ys) x (suc k, within, is) passes =
    or_right (test y) (list_any test ys) (list_any-Contains test ys x (k, omega arith, is) passes)

-- an element of the list that passes
pub record Passing {X : Type 0} (test : X → Bool) (xs : List X) : Type 0 where
  pub item : X
  pub there : Contains xs item
  pub passes : test item ≡ true

-- where the test passes there is one
pub Passing-list_any : {X : Type 0} (test : X → Bool) (xs : List X) → list_any test xs ≡ true → Passing test xs
Passing-list_any test [] e = absurd (cc)
Passing-list_any test (y ∷ ys) e =
    elim (test y) as (λ b. test y ≡ b → (b || list_any test ys) ≡ true → Passing test (y ∷ ys)) [
      | true ↦ λ passes _. record { item = y; there = Contains-head y ys; passes = passes }
      | false ↦ λ _ rest. let found = Passing-list_any test ys rest in
          record { item = found.item; there = Contains-tail y ys found.item found.there; passes = found.passes }
    ] refl e
