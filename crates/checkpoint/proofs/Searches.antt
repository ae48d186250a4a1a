-- A binary search in rising pages.
use Rattle.std.proofs.Common.{ℕ, zero, suc, ◌≡◌, ◌<◌, ◌≤◌, List, [], ◌∷◌, length, get_or, drop, Result}
use Rattle.std.proofs.Common.{Ok, Err, is_ok, Equal, Ordering, sym, ap, subst, ◌∙◌, inl, inr, arith}
use Rattle.std.specs.List.{list_any}
use Rattle.std.specs.List.Sorted.{IsBinarySearchResult, IsSearchInRange, IsNonDecreasingBy}
use Rattle.std.specs.Ordering.{nat_cmp, ordering_then, ordering_index}
use Rattle.std.proofs.lemmas.Bool.{cases_eq, cases_lt, false_from_ne_true}
use Rattle.std.proofs.lemmas.Bool.Decides.{nat_tests}
use Rattle.std.proofs.lemmas.List.Elements.{Contains-get_or}
use Rattle.page_entry.specs.declared.numbers.FilePage.{FilePage}
use Rattle.frames.specs.Frames.{IsBefore}
use Rattle.checkpoint.specs.Checkpoint.{AreRising, same_page}
use Rattle.checkpoint.proofs.Lists.{list_any-Contains, Passing-list_any}
use Rattle.checkpoint.proofs.PagesInUse.{same_page-true, same_page-refl}

-- the order of pages: by file, then by page
abbrev pub order_of : FilePage → FilePage → Ordering
order_of a b = ordering_then (nat_cmp a.file b.file) (nat_cmp a.page b.page)

pub AreRising-tail : (owner : FilePage) (owners : List FilePage) → AreRising (owner ∷ owners) → AreRising owners
AreRising-tail owner [] rising = tt
AreRising-tail owner (next ∷ owners) rising = rising.1

pub AreRising-drop : (n : ℕ) (owners : List FilePage) → AreRising owners → AreRising (drop n owners)
AreRising-drop zero owners rising = rising
AreRising-drop (suc n) [] rising = tt
AreRising-drop (suc n) (owner ∷ owners) rising = AreRising-drop n owners (AreRising-tail owner owners rising)

IsBefore-trans : (a b c : FilePage) → IsBefore a b → IsBefore b c → IsBefore a c
IsBefore-trans a b c (inl x) (inl y) = inl (omega arith)
IsBefore-trans a b c (inl x) (inr y) = inl (omega (arith, y.0))
IsBefore-trans a b c (inr x) (inl y) = inl (omega (arith, x.0))
IsBefore-trans a b c (inr x) (inr y) = inr (x.0 ∙ y.0, omega (arith, x.1, y.1))

-- the first page comes before each after it
pub before_each : (owner : FilePage) (owners : List FilePage)
    → AreRising (owner ∷ owners) → (k : ℕ) (d : FilePage) → k < length owners
    → IsBefore owner (get_or owners k d)
before_each owner [] rising k d within = absurd (omega arith)
before_each owner (next ∷ owners) rising zero d within = rising.0
before_each owner (next ∷ owners) rising (suc k) d within =
    IsBefore-trans owner next (get_or owners k d) rising.0 (before_each next owners rising.1 k d (omega arith))

-- of two places the earlier one has the page that comes before
pub before_later : (owners : List FilePage) → AreRising owners → (i j : ℕ) (d : FilePage) → i < j → j < length owners
    → IsBefore (get_or owners i d) (get_or owners j d)
before_later [] rising i j d less within = absurd (omega arith)
before_later (owner ∷ owners) rising zero zero d less within = absurd (omega arith)
before_later (owner ∷ owners) rising zero (suc j) d less within = before_each owner owners rising j d (omega arith)
before_later (owner ∷ owners) rising (suc i) zero d less within = absurd (omega arith)
before_later (owner ∷ owners) rising (suc i) (suc j) d less within =
    before_later owners (AreRising-tail owner owners rising) i j d (omega arith) (omega arith)

rises_against : (a b page : FilePage) → IsBefore a b
    → ordering_index (order_of a page) ≤ ordering_index (order_of b page)
rises_against a b page (inl file) = grind (arith, nat_tests)
rises_against a b page (inr same) = grind (arith, nat_tests)

same_from_order : (a page : FilePage) → order_of a page ≡ Equal → page ≡ a
same_from_order a page e =
    let file : page.file ≡ a.file = grind (arith, nat_tests) in
    let place : page.page ≡ a.page = grind (arith, nat_tests) in
    λ i. record { file = file i; page = place i }

no_order : (page : FilePage) → order_of page page ≡ Equal
no_order page = grind (arith, nat_tests)

searchable : (owners : List FilePage) (page : FilePage) → AreRising owners
    → IsNonDecreasingBy (λ y. ordering_index (order_of y page)) owners
searchable owners page rising i j d le within =
    elim (cases_eq i j) [
      | inl same ↦ subst
          (λ k. ordering_index (order_of (get_or owners i d) page) ≤ ordering_index (order_of (get_or owners k d) page))
          same (omega arith)
      | inr other ↦ rises_against (get_or owners i d) (get_or owners j d) page
          (before_later owners rising i j d (omega (arith, other)) within)
    ]

-- a binary search finds a page exactly where it is
pub is_ok-searched : (owners : List FilePage) (page : FilePage) (r : Result ℕ ℕ) → AreRising owners
    → IsSearchInRange r (length owners) → IsBinarySearchResult (λ y. order_of y page) owners r
    → is_ok r ≡ list_any (same_page page) owners
is_ok-searched owners page (Ok i) rising within at =
    let here = same_from_order (get_or owners i page) page (at page) in
    sym (list_any-Contains (same_page page) owners (get_or owners i page) (Contains-get_or owners i page within)
    (ap (same_page page) (sym here) ∙ same_page-refl page))
is_ok-searched owners page (Err i) rising within at =
    let parts = at (searchable owners page rising) in
    sym (false_from_ne_true (list_any (same_page page) owners) (λ e.
    let found = Passing-list_any (same_page page) owners e in
    let same : get_or owners found.there.0 found.item ≡ page =
    found.there.2
    ∙ sym (same_page-true page found.item found.passes) in
    let equal : order_of (get_or owners found.there.0 found.item) page ≡ Equal =
    ap (λ y. order_of y page) same
    ∙ no_order page in
    elim (cases_lt found.there.0 i) [
      | inl before ↦ let less = parts.0 found.there.0 found.item (omega arith) before in absurd (cc)
      | inr after ↦ let greater = parts.1 found.there.0 found.item after found.there.1 in absurd (cc)
    ]))
