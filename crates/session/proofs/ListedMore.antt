-- One file more is listed.
use Rattle.std.proofs.Common.{◌≡◌, ℕ, zero, suc, ◌+◌, ◌<◌, arith, List, [], ◌∷◌, ◌++◌, length, map, take}
use Rattle.std.proofs.Common.{Some, is_some, slice_get, slice_index, refl, sym, ◌∙◌, ap, true≢false}
use Rattle.std.proofs.lemmas.List.{map_push}

some_is : {Y : Type 0} (x y : Y) → Some x ≡ Some y → x ≡ y
some_is x y is = cc

take_next : {Y : Type 0} (ys : List Y) (i : ℕ) (y : Y) → slice_get ys i ≡ Some y → take (i + 1) ys ≡ take i ys ++ y ∷ []
take_next [] i y is = absurd (true≢false (sym (ap is_some is)))
take_next (x ∷ ys) zero y is = ap (λ z. z ∷ []) (some_is x y is)
take_next (x ∷ ys) (suc i) y is =
    let on : suc i + 1 ≡ suc (i + 1) = omega arith in
    ap (λ n. take n (x ∷ ys)) on ∙ ap (λ l. x ∷ l) (take_next ys i y is)

pub listed_more : {X Y : Type 0} (f : X → Y) (xs : List X) (x : X) (items : List X) (ys : List Y) (i : ℕ)
    → items ≡ xs ++ x ∷ [] → map f xs ≡ take i ys → slice_get ys i ≡ Some (f x) → map f items ≡ take (i + 1) ys
listed_more f xs x items ys i is before next =
    ap (map f) is ∙ map_push f xs x ∙ ap (λ l. l ++ f x ∷ []) before ∙ sym (take_next ys i (f x) next)

pub mapped_at : (f : ℕ → ℕ) (xs : List ℕ) (i : ℕ) → i < length xs → slice_get (map f xs) i ≡ Some (f (slice_index xs i))
mapped_at f [] i within = absurd (omega (arith, within))
mapped_at f (x ∷ xs) zero within = refl
mapped_at f (x ∷ xs) (suc i) within = mapped_at f xs i (omega (arith, within))

pub long_as : {X Y : Type 0} (f : X → Y) (xs : List X) → length (map f xs) ≡ length xs
long_as f [] = refl
long_as f (x ∷ xs) = ap (λ n. suc n) (long_as f xs)
