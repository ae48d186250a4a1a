-- Reading a list item by item.
use Rattle.std.proofs.Common.{◌≡◌, ◌∙◌, ℕ, suc, ◌+◌, ◌<◌, map, take, drop, get_or, List, [], ◌∷◌, ◌++◌}
use Rattle.std.proofs.Common.{length, nat_le, true, false, if◌then◌else◌, Option, Some, None, refl, sym, ap}
use Rattle.std.proofs.Math.Seq.{split_at}
use Rattle.std.proofs.lemmas.List.{take_more, map-append}
use Rattle.serde_json.specs.Data.{Data}
use Rattle.scripts.specs.Arguments.{if_some, all_of, byte_of, few_of, list_of}
use Rattle.serde_json.specs.View.{items_of}

if_some-none : {A B : Type 0} (o : Option A) → if_some {B = B} o (λ _. None) ≡ None
if_some-none None = refl
if_some-none (Some x) = refl

if_some-three : {B : Type 0} (a : Option B) (b : Option (List B)) (c : Option B)
    → if_some a (λ y. if_some (if_some b (λ ys. if_some c (λ z. Some (ys ++ z ∷ [])))) (λ ys. Some (y ∷ ys)))
    ≡ if_some (if_some a (λ y. if_some b (λ ys. Some (y ∷ ys)))) (λ ys. if_some c (λ z. Some (ys ++ z ∷ [])))
if_some-three None b c = refl
if_some-three (Some y) None c = refl
if_some-three (Some y) (Some ys) None = refl
if_some-three (Some y) (Some ys) (Some z) = refl

all_of-append_one : {A B : Type 0} (f : A → Option B) (xs : List A) (x : A)
    → all_of f (xs ++ x ∷ []) ≡ if_some (all_of f xs) (λ ys. if_some (f x) (λ y. Some (ys ++ y ∷ [])))
all_of-append_one f [] x = refl
all_of-append_one f (w ∷ xs) x = rw (all_of-append_one f xs x) (if_some-three (f w) (all_of f xs) (f x))

-- one more item that f makes something of
pub all_of-more : {A B : Type 0} (f : A → Option B) (xs : List A) (ys : List B) (x : A) (y : B) → all_of f xs ≡ Some ys
    → Some y ≡ f x → all_of f (xs ++ x ∷ []) ≡ Some (ys ++ y ∷ [])
all_of-more f xs ys x y before this = rw (all_of-append_one f xs x, before, sym this) refl

-- an item that f makes nothing of
pub all_of-stops : {A B : Type 0} (f : A → Option B) (xs : List A) (x : A) (zs : List A) → None ≡ f x
    → all_of f (xs ++ x ∷ zs) ≡ None
all_of-stops f [] x zs this = rw (sym this) refl
all_of-stops f (w ∷ xs) x zs this = rw (all_of-stops f xs x zs this) (if_some-none (f w))

-- bytes of which one isn't a byte
pub few_of-none : (items : List Data) → all_of byte_of items ≡ None → few_of items ≡ None
few_of-none items none = elim (nat_le (length items) 8) as (λ b. (if b then all_of byte_of items else None) ≡ None)
    [ true ↦ none | false ↦ refl ]

-- a list's items, as they were put into it
pub list_of_items : (ds : List Data) → list_of (items_of ds) ≡ ds
list_of_items [] = refl
list_of_items (d ∷ ds) = ap (λ rest. d ∷ rest) (list_of_items ds)

-- an item more of the items seen as values
pub all_of_next : {V A B : Type 0} (see : V → A) (f : A → Option B) (xs : List V) (i : ℕ) (x : V) (ys : List B) (y : B)
    → i < length xs → get_or xs i x ≡ x
    → all_of f (map see (take i xs)) ≡ Some ys → Some y ≡ f (see x)
    → all_of f (map see (take (i + 1) xs)) ≡ Some (ys ++ y ∷ [])
all_of_next see f xs i x ys y below at before this = rw (
  take_more xs i x below,
  at,
  map-append see (take i xs) (x ∷ []),
) (all_of-more f (map see (take i xs)) ys (see x) y before this)

-- an item that is no value
pub all_of_fails : {V A B : Type 0} (see : V → A) (f : A → Option B) (xs : List V) (i : ℕ) (x : V) → i < length xs
    → get_or xs i x ≡ x → None ≡ f (see x) → all_of f (map see xs) ≡ None
all_of_fails see f xs i x below at this =
    let split : xs ≡ take i xs ++ x ∷ drop (suc i) xs =
    split_at xs i x below ∙ ap (λ y. take i xs ++ y ∷ drop (suc i) xs) at in
    ap (λ zs. all_of f (map see zs)) split ∙ rw (map-append see (take i xs) (x ∷ drop (suc i) xs))
    (all_of-stops f (map see (take i xs)) (see x) (map see (drop (suc i) xs)) this)
