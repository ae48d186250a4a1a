-- The entries of the places of a list, in the order of their pages.
use Rattle.std.proofs.Common.{◌≡◌, ℕ, zero, suc, ◌+◌, ◌-◌, ◌<◌, true, false, cond, ◌&&◌, eqb, ltb, leb, T}
use Rattle.std.proofs.Common.{List, [], ◌∷◌, map, filter, Some, refl, sym, ap, ◌∙◌, subst, inl, inr, arith}
use Rattle.std.specs.Ordering.{nat_cmp}
use Rattle.std.specs.Cmp.{nat_cmp_total}
use Rattle.std.specs.FinMap as fin_map
use Rattle.std.specs.FinMap.Entries.{below_all}
use Rattle.std.proofs.lemmas.Bool.{cases_order}
use Rattle.std.proofs.lemmas.Bool.Decides.{nat_tests}
use Rattle.mappings.specs.declared.place.Place.{Place}
use Rattle.mappings.specs.declared.mapping.Mapping.{Mapping}
use Rattle.mappings.specs.Places.{advanced, is_among, pages_mapping}
use Rattle.mappings.specs.inside.Listed.{places_of, pages_listed, IsOrdered}
use Rattle.mappings.proofs.PlacesLaws.{eq_by_cmp-nat_cmp, first_or_other}
use Rattle.mappings.proofs.Lists.{lookup, get-places_of}

abbrev Entries : Type 0
Entries = List (ℕ × Place)

-- the entries of count pages from first on, and then others
abbrev entries_then : ℕ → ℕ → Place → Entries → Entries
entries_then first zero place rest = rest
entries_then first (suc count) place rest = (first, place) ∷ entries_then (first + 1) count (advanced place 1) rest

-- the entries of a list's mappings, one after the other
abbrev listed : List Mapping → Entries
listed [] = []
listed (m ∷ ms) = entries_then m.first (m.end - m.first) m.place (listed ms)

find-entries_then : (q first count : ℕ) (place : Place) (rest : Entries)
    → fin_map.find nat_cmp q (entries_then first count place rest)
    ≡ cond (is_among first count q) (Some (advanced place (q - first))) (fin_map.find nat_cmp q rest)
find-entries_then q first zero place rest = grind (arith, nat_tests)
find-entries_then q first (suc count) place rest =
    rw (eq_by_cmp-nat_cmp q first, find-entries_then q (first + 1) count (advanced place 1) rest)
    (first_or_other place first count q _)

find-listed : (q : ℕ) (ms : List Mapping) → fin_map.find nat_cmp q (listed ms) ≡ lookup q ms
find-listed q [] = refl
find-listed q (m ∷ ms) =
    find-entries_then q m.first (m.end - m.first) m.place (listed ms)
    ∙ rw (find-listed q ms) (grind (arith, nat_tests))

-- each key of the list is above x
below_entries : (x first count : ℕ) (place : Place) (rest : Entries) → x < first → below_all nat_cmp x rest ≡ true
    → below_all nat_cmp x (entries_then first count place rest) ≡ true
below_entries x first zero place rest less below = below
below_entries x first (suc count) place rest less below =
    let later = below_entries x (first + 1) count (advanced place 1) rest (omega arith) below in
    grind (arith, nat_tests)

below_listed : (x low : ℕ) (ms : List Mapping) → IsOrdered low ms → x < low → below_all nat_cmp x (listed ms) ≡ true
below_listed x low [] o less = refl
below_listed x low (m ∷ ms) o less =
    let pages = o.1.has_pages in let bound = o.0 in
    below_entries x m.first (m.end - m.first) m.place (listed ms) (omega arith)
    (below_listed x m.end ms o.2 (omega arith))

sorted_entries : (first count : ℕ) (place : Place) (rest : Entries)
    → ((x : ℕ) → x < first + count → below_all nat_cmp x rest ≡ true) → fin_map.is_sorted nat_cmp rest ≡ true
    → fin_map.is_sorted nat_cmp (entries_then first count place rest) ≡ true
sorted_entries first zero place rest below sorted = sorted
sorted_entries first (suc count) place rest below sorted =
    let first_below =
    below_entries first (first + 1) count (advanced place 1) rest (omega arith) (below first (omega arith)) in
    let later = sorted_entries (first + 1) count (advanced place 1) rest (λ x less. below x (omega arith)) sorted in
    grind (arith, nat_tests)

sorted_listed : (low : ℕ) (ms : List Mapping) → IsOrdered low ms → fin_map.is_sorted nat_cmp (listed ms) ≡ true
sorted_listed low [] o = refl
sorted_listed low (m ∷ ms) o =
    let pages = o.1.has_pages in
    sorted_entries m.first (m.end - m.first) m.place (listed ms) (λ x less. below_listed x m.end ms o.2 (omega arith))
    (sorted_listed m.end ms o.2)

-- the places of an ordered list have its entries
entries-places_of : (low : ℕ) (ms : List Mapping) → IsOrdered low ms → fin_map.entries (places_of ms) ≡ listed ms
entries-places_of low ms o =
    let sorted = subst T (sym (sorted_listed low ms o)) tt in
    let same =
    fin_map.same_map nat_cmp_total fin_map.nat_cmp-IsAntisymmetric (places_of ms) (fin_map.from_sorted (listed ms))
    (λ q. get-places_of ms q ∙ sym (fin_map.get-from_sorted nat_cmp (listed ms) q sorted ∙ find-listed q ms)) in
    ap fin_map.entries same ∙ fin_map.entries-from_sorted nat_cmp (listed ms) sorted

module _ (file page : ℕ) where
  -- the keys of the entries at this page of this file
  abbrev keys_at : Entries → List ℕ
  keys_at es = map (λ e. e.0) (filter (λ e. eqb e.1.file file && eqb e.1.page page) es)

  keys_at-cons : (e : ℕ × Place) (es : Entries)
      → keys_at (e ∷ es) ≡ cond (eqb e.1.file file && eqb e.1.page page) (e.0 ∷ keys_at es) (keys_at es)
  keys_at-cons e es =
      let test = λ (e : ℕ × Place). eqb e.1.file file && eqb e.1.page page in
      elim (test e)
      as (λ b. map (λ e. e.0) (cond b (e ∷ filter test es) (filter test es)) ≡ cond b (e.0 ∷ keys_at es) (keys_at es)) [
        | true ↦ refl
        | false ↦ refl
      ]

  -- the first page of a range, or one of the others
  first_or_later : (at from first count : ℕ) (later rest : List ℕ)
      → later ≡ cond (eqb at file && (leb (from + 1) page && ltb (page - (from + 1)) count))
      ((first + 1 + (page - (from + 1))) ∷ rest) rest
      → cond (eqb at file && eqb from page) (first ∷ later) later
      ≡ cond (eqb at file && (leb from page && ltb (page - from) (suc count))) ((first + (page - from)) ∷ rest) rest
  first_or_later at from first count later rest e =
      elim (cases_order page from) [
        | inl same ↦ let here : first + (page - from) ≡ first = omega arith in grind (arith, nat_tests)
        | inr (inl below) ↦ grind (arith, nat_tests)
        | inr (inr above) ↦
            let there : first + 1 + (page - (from + 1)) ≡ first + (page - from) = omega arith in
            grind (arith, nat_tests)
      ]

  keys_at-entries_then : (first count : ℕ) (place : Place) (rest : Entries)
      → keys_at (entries_then first count place rest)
      ≡ cond (eqb place.file file && (leb place.page page && ltb (page - place.page) count))
      ((first + (page - place.page)) ∷ keys_at rest) (keys_at rest)
  keys_at-entries_then first zero place rest = grind (arith, nat_tests)
  keys_at-entries_then first (suc count) place rest =
      keys_at-cons (first, place) (entries_then (first + 1) count (advanced place 1) rest)
      ∙ first_or_later place.file place.page first count _ (keys_at rest)
      (keys_at-entries_then (first + 1) count (advanced place 1) rest)

  keys_at-listed : (ms : List Mapping) → keys_at (listed ms) ≡ pages_listed ms file page
  keys_at-listed [] = refl
  keys_at-listed (m ∷ ms) =
      keys_at-entries_then m.first (m.end - m.first) m.place (listed ms)
      ∙ rw (keys_at-listed ms) (grind (arith, nat_tests))

  -- the pages of the places are those of the list
  pub pages_mapping-places_of : (low : ℕ) (ms : List Mapping) → IsOrdered low ms
      → pages_mapping (places_of ms) file page ≡ pages_listed ms file page
  pages_mapping-places_of low ms o = ap keys_at (entries-places_of low ms o) ∙ keys_at-listed ms
