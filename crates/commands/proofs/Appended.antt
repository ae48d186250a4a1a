-- What those who print item after item need: what was appended by steps.
use Rattle.std.proofs.Common.{◌≡◌, ℕ, ◌+◌, ◌<◌, List, [], ◌∷◌, ◌++◌, length, take, get_or, Option, Some, None}
use Rattle.std.proofs.Common.{sym, ◌∙◌, ap, subst, append_assoc, append-nil}
use Rattle.std.specs.List.{flat_map}
use Rattle.std.specs.Io.KnownBytes.{Appends}
use Rattle.std.proofs.lemmas.List.{take_more, flat_map_more}

pub appends_none : (known : Option (List ℕ)) → Appends known known []
appends_none None = tt
appends_none (Some xs) = sym (append-nil xs)

pub appends_both : (a b c : Option (List ℕ)) (xs ys : List ℕ) → Appends a b xs → Appends b c ys
    → Appends a c (xs ++ ys)
appends_both None b c xs ys first second = tt
appends_both (Some old) None c xs ys first second = absurd first
appends_both (Some old) (Some mid) None xs ys first second = absurd second
appends_both (Some old) (Some mid) (Some new) xs ys first second =
    second ∙ ap (λ front. front ++ ys) first ∙ append_assoc old xs ys

-- one item more
pub item_more : {X : Type 0} (f : X → List ℕ) (old mid new : Option (List ℕ)) (xs : List X) (i : ℕ) (x : X)
    → i < length xs → x ≡ get_or xs i x → Appends old mid (flat_map f (take i xs)) → Appends mid new (f x)
    → Appends old new (flat_map f (take (i + 1) xs))
item_more f old mid new xs i x below is before this =
    let P : List ℕ → Type 0 = λ text. Appends old new text in
    let more : take (i + 1) xs ≡ take i xs ++ x ∷ [] =
    take_more xs i x below ∙ ap (λ y. take i xs ++ y ∷ []) (sym is) in
    let text : flat_map f (take i xs) ++ f x ≡ flat_map f (take (i + 1) xs) =
    flat_map_more f [] (take i xs) x ∙ ap (flat_map f) (sym more) in
    subst P text (appends_both old mid new (flat_map f (take i xs)) (f x) before this)
