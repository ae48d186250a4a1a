-- What is written to an output, one thing after the other.
use Rattle.std.proofs.Common.{◌≡◌, ℕ, suc, add-one, ◌+◌, ◌<◌, List, [], ◌∷◌, ◌++◌, length, take, get_or, map}
use Rattle.std.proofs.Common.{Option, Result, OnOk, sym, ◌∙◌, ap, subst}
use Rattle.std.specs.List.{flat_map}
use Rattle.std.specs.Io.KnownBytes.{Appends}
use Rattle.std.proofs.lemmas.List.{take_more, flat_map_more, map_push, map_more}
use Rattle.std.proofs.lemmas.Result.{on_ok_weaker}
use Rattle.volume_reading.proofs.Public.{appends_both}
use Rattle.serde_json.specs.Data.{Data}
use Rattle.serde_json.specs.View.{view}
use Rattle.serde_json.specs.declared.value.Value.{Value}

-- three texts, where the last one is what a call writes that succeeds
pub appends_all : {T E : Type 0} (a b c d : Option (List ℕ)) (xs ys zs : List ℕ) (last : Result T E) → Appends a b xs
    → Appends b c ys → OnOk last (Appends c d zs) → OnOk last (Appends a d ((xs ++ ys) ++ zs))
appends_all a b c d xs ys zs last first second third = on_ok_weaker last
    (λ (end : Appends c d zs). appends_both a c d (xs ++ ys) zs (appends_both a b c xs ys first second) end) third

-- one line more, where lines are counted
pub line_more : (lines : ℕ → List ℕ) (line : List ℕ) (old mid new : Option (List ℕ)) (i : ℕ)
    → lines i ++ line ≡ lines (suc i) → Appends old mid (lines i) → Appends mid new line
    → Appends old new (lines (i + 1))
line_more lines line old mid new i more before this =
    let P : List ℕ → Type 0 = λ text. Appends old new text in
    subst P (more ∙ ap lines (sym (add-one i))) (appends_both old mid new (lines i) line before this)

-- one item more
pub item_more : {X : Type 0} (f : X → List ℕ) (old mid new : Option (List ℕ)) (xs : List X) (i : ℕ) (d : X)
    → i < length xs → Appends old mid (flat_map f (take i xs)) → Appends mid new (f (get_or xs i d))
    → Appends old new (flat_map f (take (i + 1) xs))
item_more {X} f old mid new xs i d below before this =
    let P : List ℕ → Type 0 = λ text. Appends old new text in
    let x : X = get_or xs i d in
    let text : flat_map f (take i xs) ++ f x ≡ flat_map f (take (i + 1) xs) =
    flat_map_more f [] (take i xs) x ∙ ap (flat_map f) (sym (take_more xs i d below)) in
    subst P text (appends_both old mid new (flat_map f (take i xs)) (f x) before this)

-- this item more
pub this_item_more : {X : Type 0} (f : X → List ℕ) (old mid new : Option (List ℕ)) (xs : List X) (i : ℕ) (x : X)
    → i < length xs → x ≡ get_or xs i x → Appends old mid (flat_map f (take i xs)) → Appends mid new (f x)
    → Appends old new (flat_map f (take (i + 1) xs))
this_item_more {X} f old mid new xs i x below is before this =
    let P : X → Type 0 = λ y. Appends mid new (f y) in
    item_more f old mid new xs i x below before (subst P is this)

-- one value more
pub value_more : {X : Type 0} (f : X → Data) (old new : List Value) (xs : List X) (i : ℕ) (d : X) (value : Value)
    → i < length xs → new ≡ old ++ value ∷ [] → view value ≡ f (get_or xs i d) → map view old ≡ map f (take i xs)
    → map view new ≡ map f (take (i + 1) xs)
value_more f old new xs i d value below pushed is before =
    ap (map view) pushed ∙ map_push view old value ∙ ap (λ front. front ++ view value ∷ []) before
    ∙ ap (λ last. map f (take i xs) ++ last ∷ []) is ∙ sym (map_more f xs i d below)

-- one value more, where values are counted
pub counted_more : (all : ℕ → List Data) (last : Data) (old new : List Value) (i : ℕ) (value : Value)
    → all i ++ last ∷ [] ≡ all (suc i) → new ≡ old ++ value ∷ [] → view value ≡ last → map view old ≡ all i
    → map view new ≡ all (i + 1)
counted_more all last old new i value more pushed is before =
    ap (map view) pushed ∙ map_push view old value ∙ ap (λ front. front ++ view value ∷ []) before
    ∙ ap (λ d. all i ++ d ∷ []) is ∙ more ∙ ap all (sym (add-one i))
