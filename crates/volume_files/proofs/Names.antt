-- Files by their places and names.
use Rattle.std.proofs.Common.{◌≡◌, ◌<◌, ℕ, zero, suc, List, [], ◌∷◌, length, slice_get, Some, arith}

-- what is at a place is in the list
pub place_below : {X : Type 0} (xs : List X) (i : ℕ) (x : X) → slice_get xs i ≡ Some x → i < length xs
place_below [] i x at = cc
place_below (y ∷ ys) zero x at = omega arith
place_below (y ∷ ys) (suc i) x at =
    let rest = place_below ys i x at in
    omega (arith, rest)
