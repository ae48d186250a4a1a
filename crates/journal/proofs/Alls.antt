-- What holds of each element of a list.
use Rattle.std.proofs.Common.{◌≡◌, ℕ, zero, suc, ◌<◌, ◌⊎◌, inl, inr, List, []}
use Rattle.std.proofs.Common.{◌∷◌, ◌++◌, length, get_or, refl, subst, arith}
use Rattle.std.specs.List.{AllByRecursion, Contains}

pub all_map : {X : Type 0} {P Q : X → Type 0} → ((x : X) → P x → Q x) → (xs : List X) → AllByRecursion P xs
    → AllByRecursion Q xs
all_map step [] all = tt
all_map step (x ∷ xs) all = (step x all.0, all_map step xs all.1)

pub all_both : {X : Type 0} {P Q R : X → Type 0} → ((x : X) → P x → Q x → R x)
    → (xs : List X) → AllByRecursion P xs → AllByRecursion Q xs
    → AllByRecursion R xs
all_both step [] all others = tt
all_both step (x ∷ xs) all others = (step x all.0 others.0, all_both step xs all.1 others.1)

pub all-append : {X : Type 0} (P : X → Type 0) (xs ys : List X) → AllByRecursion P xs → AllByRecursion P ys
    → AllByRecursion P (xs ++ ys)
all-append P [] ys all rest = rest
all-append P (x ∷ xs) ys all rest = (all.0, all-append P xs ys all.1 rest)

pub all_front : {X : Type 0} (P : X → Type 0) (xs ys : List X) → AllByRecursion P (xs ++ ys) → AllByRecursion P xs
all_front P [] ys all = tt
all_front P (x ∷ xs) ys all = (all.0, all_front P xs ys all.1)

pub all_back : {X : Type 0} (P : X → Type 0) (xs ys : List X) → AllByRecursion P (xs ++ ys) → AllByRecursion P ys
all_back P [] ys all = all
all_back P (x ∷ xs) ys all = all_back P xs ys all.1

-- an element has what each has
pub all_at : {X : Type 0} (P : X → Type 0) (xs : List X) (x : X) → AllByRecursion P xs → Contains xs x → P x
all_at {X} P [] x all there = absurd (omega (arith, there.1))
all_at {X} P (y ∷ ys) x all there = by (λ later. all_at P ys x all.1 later) there.0 there.1 there.2
  where
    by : (Contains ys x → P x) → (k : ℕ) → k < length (y ∷ ys) → get_or (y ∷ ys) k x ≡ x → P x
    by rest zero lt is = subst P is all.0
    by rest (suc k) lt is = rest (k, omega arith, is)

pub all_of : {X : Type 0} (P : X → Type 0) (xs : List X) → ((x : X) → P x) → AllByRecursion P xs
all_of P [] each = tt
all_of P (x ∷ xs) each = (each x, all_of P xs each)

-- ---- elements by their places

-- an element of the list
abbrev pub IsIn : {X : Type 0} → X → List X → Type 0
IsIn x [] = ⊥
IsIn x (y ∷ ys) = (y ≡ x) ⊎ IsIn x ys

pub all_in : {X : Type 0} (P : X → Type 0) (xs : List X) (x : X) → AllByRecursion P xs → IsIn x xs → P x
all_in P [] x all there = absurd there
all_in P (y ∷ ys) x all (inl e) = subst P e all.0
all_in P (y ∷ ys) x all (inr later) = all_in P ys x all.1 later

pub all_each : {X : Type 0} (P : X → Type 0) (xs : List X) → ((x : X) → IsIn x xs → P x) → AllByRecursion P xs
all_each P [] each = tt
all_each P (x ∷ xs) each = (each x (inl refl), all_each P xs (λ y later. each y (inr later)))

-- an element put in the place of another
pub all_replaced : {X : Type 0} (P : X → Type 0) (xs : List X) (y z : X) (ys : List X)
    → (P y → P z) → AllByRecursion P (xs ++ y ∷ ys) → AllByRecursion P (xs ++ z ∷ ys)
all_replaced P [] y z ys step all = (step all.0, all.1)
all_replaced P (x ∷ xs) y z ys step all = (all.0, all_replaced P xs y z ys step all.1)

pub in_of : {X : Type 0} (xs : List X) (x : X) → Contains xs x → IsIn x xs
in_of xs x there = all_at (λ y. IsIn y xs) xs x (all_each (λ y. IsIn y xs) xs (λ y is. is)) there

pub in_left : {X : Type 0} (xs ys : List X) (x : X) → IsIn x xs → IsIn x (xs ++ ys)
in_left [] ys x there = absurd there
in_left (y ∷ xs) ys x (inl e) = inl e
in_left (y ∷ xs) ys x (inr later) = inr (in_left xs ys x later)

pub in_right : {X : Type 0} (xs ys : List X) (x : X) → IsIn x ys → IsIn x (xs ++ ys)
in_right [] ys x there = there
in_right (y ∷ xs) ys x there = inr (in_right xs ys x there)
