-- A list of values is made item by item.
use Rattle.std.proofs.Common.{◌≡◌, ℕ, ◌+◌, ◌<◌, List, [], ◌∷◌, ◌++◌, length, map, take, get_or, refl}
use Rattle.std.proofs.lemmas.List.{take_more, map-append}

-- one item more, after the first two
pub items_next : {V W A : Type 0} (see : V → A) (f : W → A) (items : List V) (first second : A) (xs : List W) (i : ℕ)
    (item : V) (x : W) → i < length xs → get_or xs i x ≡ x → map see items ≡ first ∷ second ∷ map f (take i xs)
    → see item ≡ f x → map see (items ++ item ∷ []) ≡ first ∷ second ∷ map f (take (i + 1) xs)
items_next see f items first second xs i item x below at before this = rw (
  take_more xs i x below,
  at,
  map-append see items (item ∷ []),
  map-append f (take i xs) (x ∷ []),
  before,
  this,
) refl
