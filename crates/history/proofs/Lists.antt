-- Lists and options: what is in them, and what isn't.
use Rattle.std.proofs.Common.{◌≡◌, ◌⊎◌, ℕ, zero, suc, List, [], ◌∷◌, ◌++◌, map, drop, Some, None, inl, inr, refl, sym}
use Rattle.std.proofs.Common.{ap, ◌∙◌, arith, append_assoc}
use Rattle.std.specs.List.{Contains, flat_map}

-- ---- options

pub some_same : {X : Type 0} (x y : X) → Some x ≡ Some y → x ≡ y
some_same x y e = cc

pub none_some : {X : Type 0} (x : X) → None ≡ Some x → ⊥
none_some x e = cc

-- ---- what is in a list

pub contains_none : {X : Type 0} (x : X) → Contains [] x → ⊥
contains_none x has = absurd (omega (arith, has.1))

-- the first, or one of the others
pub first_or : {X : Type 0} (y : X) (ys : List X) (x : X) → Contains (y ∷ ys) x → (y ≡ x) ⊎ Contains ys x
first_or y ys x (zero, lt, e) = inl e
first_or y ys x (suc k, lt, e) = inr (k, omega (arith, lt), e)

pub only_one : {X : Type 0} (y x : X) → Contains (y ∷ []) x → y ≡ x
only_one y x has = elim (first_or y [] x has) [ inl e ↦ e | inr none ↦ absurd (contains_none x none) ]

pub contains_head : {X : Type 0} (x : X) (xs : List X) → Contains (x ∷ xs) x
contains_head x xs = (0, omega arith, refl)

pub contains_cons : {X : Type 0} (y : X) (xs : List X) (x : X) → Contains xs x → Contains (y ∷ xs) x
contains_cons y xs x has = (suc has.0, omega (arith, has.1), has.2)

pub contains_unmapped : {X Y : Type 0} (f : X → Y) (xs : List X) (y : Y) → Contains (map f xs) y
    → (x : X) × Contains xs x × (f x ≡ y)
contains_unmapped f [] y has = absurd (omega (arith, has.1))
contains_unmapped f (x ∷ xs) y (zero, lt, is) = (x, contains_head x xs, is)
contains_unmapped f (x ∷ xs) y (suc k, lt, is) = let r = contains_unmapped f xs y (k, omega arith, is) in
    (r.0, contains_cons x xs r.0 r.1, r.2)

pub contains_drop : {X : Type 0} (n : ℕ) (xs : List X) (x : X) → Contains (drop n xs) x → Contains xs x
contains_drop zero xs x has = has
contains_drop (suc n) [] x has = has
contains_drop (suc n) (y ∷ ys) x has = contains_cons y ys x (contains_drop n ys x has)

-- ---- lists made of others

pub nothing_mapped : {X Y : Type 0} (f : X → Y) (xs : List X) → map f xs ≡ [] → xs ≡ []
nothing_mapped f [] e = refl
nothing_mapped f (x ∷ xs) e = cc

pub flat_map-append : {X Y : Type 0} (f : X → List Y) (xs ys : List X)
    → flat_map f (xs ++ ys) ≡ flat_map f xs ++ flat_map f ys
flat_map-append f [] ys = refl
flat_map-append f (x ∷ xs) ys =
    ap (λ rest. f x ++ rest) (flat_map-append f xs ys) ∙ sym (append_assoc (f x) (flat_map f xs) (flat_map f ys))
