-- Notes that are as at boot.
use Rattle.std.proofs.Common.{ℕ, zero, suc, ◌≡◌, ◌==◌, Bool, true, false, not}
use Rattle.std.proofs.Common.{List, [], ◌∷◌, length, replicate, refl, ap, arith}
use Rattle.std.proofs.lemmas.Bool.Decides.{nat_tests}
use Rattle.std.specs.List.{list_any}

-- none of these notes is set
pub none_set : (notes : List Bool) → list_any (λ note. note) notes ≡ false → notes ≡ replicate (length notes) false
none_set [] none = refl
none_set (true ∷ notes) none = absurd (cc)
none_set (false ∷ notes) none = ap (λ (rest : List Bool). false ∷ rest) (none_set notes none)

pub set_none : (n : ℕ) → list_any (λ note. note) (replicate n false) ≡ false
set_none zero = refl
set_none (suc n) = set_none n

pub none_left : {X : Type 0} (xs : List X) → (length xs == 0) ≡ true → xs ≡ []
none_left [] none = refl
none_left (x ∷ xs) none = absurd (grind (arith, nat_tests))

pub not_true : (b : Bool) → not b ≡ true → b ≡ false
not_true true is = absurd (cc)
not_true false is = refl
