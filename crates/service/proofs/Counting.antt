-- Facts of all numbers below one, and of one more.
use Rattle.std.proofs.Common.{◌≡◌, ℕ, ◌+◌, ◌<◌, List, [], ◌∷◌, ◌++◌, Some, length}
use Rattle.std.proofs.Common.{length-append, get_or, ap, ◌∙◌, subst, ⊎_elim, arith}
use Rattle.std.specs.Prelude.{slice_get}
use Rattle.std.proofs.lemmas.Bool.{cases_lt}
use Rattle.std.proofs.lemmas.List.{get_or_append_left, get_or_push}
use Rattle.std.proofs.lemmas.Option.{slice_get-get_or, get_or_from_slice_get}

pub below_more : (P : ℕ → Type 0) (n : ℕ) → ((i : ℕ) → i < n → P i) → P n → (i : ℕ) → i < n + 1 → P i
below_more P n so_far this i below =
    ⊎_elim (λ earlier. so_far i earlier)
    (λ later. let last : n ≡ i = omega (arith, later, below) in subst P last this) (cases_lt i n)

-- a list with one more element
pub one_pushed : {X : Type 0} (f : ℕ → X) (xs : List X) (x : X) (n : ℕ) → length xs ≡ n → x ≡ f n
    → ((i : ℕ) → i < n → slice_get xs i ≡ Some (f i))
    → (i : ℕ) → i < n + 1 → slice_get (xs ++ x ∷ []) i ≡ Some (f i)
one_pushed {X} f xs x n count is so_far = below_more (λ i. slice_get (xs ++ x ∷ []) i ≡ Some (f i)) n earlier last
  where
    within : (i : ℕ) → i < n + 1 → slice_get (xs ++ x ∷ []) i ≡ Some (get_or (xs ++ x ∷ []) i x)
    within i below = slice_get-get_or (xs ++ x ∷ []) i x (omega (arith, below, count, length-append xs (x ∷ [])))

    earlier : (i : ℕ) → i < n → slice_get (xs ++ x ∷ []) i ≡ Some (f i)
    earlier i below =
        within i (omega (arith, below))
        ∙ ap (λ (y : X). Some y) (get_or_append_left xs (x ∷ []) x i (omega (arith, below, count))
        ∙ get_or_from_slice_get xs i (f i) x (so_far i below))

    last : slice_get (xs ++ x ∷ []) n ≡ Some (f n)
    last = within n (omega arith) ∙ ap (λ (y : X). Some y) (get_or_push xs x x n count ∙ is)
