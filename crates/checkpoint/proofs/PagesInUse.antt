-- Frames and copy frames by the pages that they have.
use Rattle.std.proofs.Common.{ℕ, zero, suc, ◌≡◌, ◌||◌, true, false, eqb, List, [], ◌∷◌, map, get_or, set}
use Rattle.std.proofs.Common.{Option, Some, None, is_some, IfSome, IfNone, refl, sym, ap, ◌∙◌, arith}
use Rattle.std.specs.List.{list_any}
use Rattle.std.proofs.lemmas.Bool.{and_parts, and_from, eqb-true, eq-eqb, or_left}
use Rattle.std.proofs.lemmas.Bool.{or_right, cond-true, cond-false, false_from_ne_true}
use Rattle.std.proofs.lemmas.Bool.Decides.{nat_tests}
use Rattle.page_entry.specs.declared.numbers.FilePage.{FilePage}
use Rattle.frames.specs.Frames.{Frame, page_of}
use Rattle.checkpoint.specs.Checkpoint.{same_page, is_of_page, freed_copy}

pub same_page-true : (a b : FilePage) → same_page a b ≡ true → a ≡ b
same_page-true a b e =
    let parts = and_parts (eqb a.file b.file) (eqb a.page b.page) e in
    let file = eqb-true a.file b.file parts.0 in
    let page = eqb-true a.page b.page parts.1 in
    λ i. record { file = file i; page = page i }

pub same_page-refl : (a : FilePage) → same_page a a ≡ true
same_page-refl a =
    and_from (eqb a.file a.file) (eqb a.page a.page) (eq-eqb a.file a.file refl) (eq-eqb a.page a.page refl)

pub same_page-sym : (a b : FilePage) → same_page a b ≡ same_page b a
same_page-sym a b = grind (arith, nat_tests)

-- what has a page is of it, and nothing else
pub is_of_page-page_of : (owner : FilePage) (f : Option Frame) → page_of f ≡ Some owner → is_of_page owner f ≡ true
is_of_page-page_of owner None e = absurd (cc)
is_of_page-page_of owner (Some f) e = let same : f.page ≡ owner = cc in ap (same_page owner) same ∙ same_page-refl owner

pub page_of-is_of_page : (owner : FilePage) (f : Option Frame) → is_of_page owner f ≡ true → page_of f ≡ Some owner
page_of-is_of_page owner None e = absurd (cc)
page_of-is_of_page owner (Some f) e = ap (λ page. Some page) (sym (same_page-true owner f.page e))

-- the number of one that has a page
pub record HasPage (xs : List (Option Frame)) (owner : FilePage) : Type 0 where
  pub number : ℕ
  pub holds : page_of (get_or xs number None) ≡ Some owner

pub has_page-list_any : (xs : List (Option Frame)) (owner : FilePage) → list_any (is_of_page owner) xs ≡ true
    → HasPage xs owner
has_page-list_any [] owner e = absurd (cc)
has_page-list_any (x ∷ xs) owner e =
    elim (is_of_page owner x)
    as (λ b. is_of_page owner x ≡ b → (b || list_any (is_of_page owner) xs) ≡ true → HasPage (x ∷ xs) owner) [
      | true ↦ λ is _. record { number = 0; holds = page_of-is_of_page owner x is }
      | false ↦ λ _ rest. let h = has_page-list_any xs owner rest in record { number = suc h.number; holds = h.holds }
    ] refl e

pub list_any-has_page : (xs : List (Option Frame)) (owner : FilePage) (k : ℕ) → page_of (get_or xs k None) ≡ Some owner
    → list_any (is_of_page owner) xs ≡ true
list_any-has_page [] owner k e = absurd (cc)
list_any-has_page (x ∷ xs) owner zero e =
    or_left (is_of_page owner x) (list_any (is_of_page owner) xs) (is_of_page-page_of owner x e)
list_any-has_page (x ∷ xs) owner (suc k) e =
    or_right (is_of_page owner x) (list_any (is_of_page owner) xs) (list_any-has_page xs owner k e)

pub list_any-no_page : (xs : List (Option Frame)) (owner : FilePage)
    → ((k : ℕ) → page_of (get_or xs k None) ≡ Some owner → ⊥)
    → list_any (is_of_page owner) xs ≡ false
list_any-no_page xs owner none = false_from_ne_true (list_any (is_of_page owner) xs) (λ e. let h =
    has_page-list_any xs owner e in none h.number h.holds)

-- where none has the page, none becomes free
pub freed_none : (owner : FilePage) (xs : List (Option Frame)) → ((k : ℕ) → page_of (get_or xs k None) ≡ Some owner → ⊥)
    → map (freed_copy owner) xs ≡ xs
freed_none owner [] none = refl
freed_none owner (x ∷ xs) none =
    let stays : freed_copy owner x ≡ x =
    cond-false (is_of_page owner x) None x
    (false_from_ne_true (is_of_page owner x) (λ e. none 0 (page_of-is_of_page owner x e))) in
    let rest = freed_none owner xs (λ k e. none (suc k) e) in
    λ i. stays i ∷ rest i

-- where one has it and no other, that one becomes free
pub freed_one : (owner : FilePage) (xs : List (Option Frame)) (k : ℕ)
    → page_of (get_or xs k None) ≡ Some owner → ((j : ℕ) → page_of (get_or xs j None) ≡ Some owner → j ≡ k)
    → map (freed_copy owner) xs ≡ set xs k None
freed_one owner [] k has alone = absurd (cc)
freed_one owner (x ∷ xs) zero has alone =
    let gone : freed_copy owner x ≡ None = cond-true (is_of_page owner x) None x (is_of_page-page_of owner x has) in
    let rest = freed_none owner xs (λ j e. let same = alone (suc j) e in absurd (omega arith)) in
    λ i. gone i ∷ rest i
freed_one owner (x ∷ xs) (suc k) has alone =
    let stays : freed_copy owner x ≡ x =
    cond-false (is_of_page owner x) None x (false_from_ne_true (is_of_page owner x) (λ e. let same =
    alone 0 (page_of-is_of_page owner x e) in absurd (omega arith))) in
    let rest = freed_one owner xs k has (λ j e. let same = alone (suc j) e in omega arith) in
    λ i. stays i ∷ rest i

-- whether one has a page, by the one that was found
pub list_any-found : (xs : List (Option Frame)) (owner : FilePage) (found : Option ℕ)
    → IfSome found (λ k. page_of (get_or xs k None) ≡ Some owner)
    → IfNone found ((k : ℕ) → page_of (get_or xs k None) ≡ Some owner → ⊥)
    → is_some found ≡ list_any (is_of_page owner) xs
list_any-found xs owner None has none = sym (list_any-no_page xs owner none)
list_any-found xs owner (Some k) has none = sym (list_any-has_page xs owner k has)
