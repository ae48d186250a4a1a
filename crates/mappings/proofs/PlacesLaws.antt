-- What each definition of `specs/Places.antt` says of one page, for the crates above.
use Rattle.std.proofs.Common.{◌≡◌, ◌≢◌, ℕ, zero, suc, ◌+◌, ◌-◌, ◌<◌, ◌≤◌, Bool, true, false}
use Rattle.std.proofs.Common.{not, cond, eqb, if◌then◌else◌, ◌||◌, ◌&&◌, List, [], ◌∷◌, map}
use Rattle.std.proofs.Common.{Option, Some, None, refl, sym, ap, ◌∙◌, subst, inl, inr, arith}
use Rattle.std.specs.Option.{option_map}
use Rattle.std.specs.Bool.{Decides}
use Rattle.std.specs.List.{list_any, list_all, range_with_len}
use Rattle.std.specs.Ordering.{nat_cmp, eq_by_cmp}
use Rattle.std.specs.Cmp.{nat_cmp_total}
use Rattle.std.specs.FinMap as fin_map
use Rattle.std.proofs.lemmas.Bool.{cases_order, cases_lt, false≢true}
use Rattle.std.proofs.lemmas.Bool.Decides.{nat_tests}
use Rattle.std.proofs.lemmas.Cmp.{ranked}
use Rattle.std.proofs.lemmas.Grind.{common_steps}
use Rattle.mappings.specs.declared.place.Place.{Place}
use Rattle.mappings.specs.declared.place.Rights.{Rights}
use Rattle.mappings.specs.Places.{Places, advanced, is_among, with_range, without_range, with_rights}

-- two numbers tie where they are equal
pub eq_by_cmp-nat_cmp : (q k : ℕ) → eq_by_cmp nat_cmp q k ≡ eqb q k
eq_by_cmp-nat_cmp q k = grind (arith, nat_tests)

-- no page further on is the page itself
pub advanced-zero : (place : Place) → advanced place 0 ≡ place
advanced-zero place = ap (λ n. record place { page = n }) (omega arith)

-- two ways further on in one
pub advanced-advanced : (place : Place) (j k n : ℕ) → j + k ≡ n → advanced (advanced place j) k ≡ advanced place n
advanced-advanced place j k n e = ap (λ n. record place { page = n }) (omega arith)

-- the first page of a range, or one of the others
pub first_or_other : (place : Place) (first count q : ℕ) (rest : Option Place)
    → cond (eqb q first) (Some place)
    (cond (is_among (first + 1) count q) (Some (advanced (advanced place 1) (q - (first + 1)))) rest)
    ≡ cond (is_among first (suc count) q) (Some (advanced place (q - first))) rest
first_or_other place first count q rest =
    elim (cases_order q first) [
      | inl same ↦
          let here : advanced place (q - first) ≡ place =
          subst (λ k. advanced place k ≡ place) {x = 0} (omega arith) (advanced-zero place) in
          grind (arith, nat_tests)
      | inr (inl below) ↦ grind (arith, nat_tests)
      | inr (inr above) ↦
          let there = advanced-advanced place 1 (q - (first + 1)) (q - first) (omega arith) in
          grind (arith, nat_tests)
    ]

-- the pages of a new range lead to its places, and every other page stays
pub get-with_range : (places : Places) (first count : ℕ) (place : Place) (q : ℕ)
    → fin_map.get (with_range places first count place) q
    ≡ (if is_among first count q then Some (advanced place (q - first)) else fin_map.get places q)
unfolding with_range
get-with_range places first zero place q = grind (arith, nat_tests)
get-with_range places first (suc count) place q =
    fin_map.get-insert nat_cmp_total (with_range places (first + 1) count (advanced place 1)) first place q
    ∙ rw (eq_by_cmp-nat_cmp q first, get-with_range places (first + 1) count (advanced place 1) q)
    (first_or_other place first count q (fin_map.get places q))

-- no page of a removed range is mapped, and every other page stays
pub get-without_range : (places : Places) (first count q : ℕ)
    → fin_map.get (without_range places first count) q ≡ (if is_among first count q then None else fin_map.get places q)
unfolding without_range
get-without_range places first count q =
    fin_map.get-retain_keys places (λ q. not (is_among first count q)) q
    (λ x tied. ap (λ q. not (is_among first count q)) (sym (ranked q x _ (sym tied))))
    ∙ grind (arith, nat_tests)

module _ (change : ℕ → Place → Place) where
  -- entries that are changed by their key
  pub find-map : (q : ℕ) (entries : List (ℕ × Place))
      → fin_map.find nat_cmp q (map (λ e. (e.0, change e.0 e.1)) entries)
      ≡ option_map (change q) (fin_map.find nat_cmp q entries)
  find-map q [] = refl
  find-map q (e ∷ entries) = rw (eq_by_cmp-nat_cmp q e.0, find-map q entries) (grind (arith, nat_tests, common_steps))

-- the mapped pages of a range have the rights, and every other page stays
pub get-with_rights : (places : Places) (first count : ℕ) (rights : Rights) (q : ℕ)
    → fin_map.get (with_rights places first count rights) q
    ≡ option_map (λ place. if is_among first count q then record place { rights = rights } else place)
    (fin_map.get places q)
unfolding with_rights
get-with_rights places first count rights q =
    fin_map.get-from_entries nat_cmp_total _ q
    ∙ find-map (λ q place. if is_among first count q then record place { rights = rights } else place) q
    (fin_map.entries places)
    ∙ ap (option_map (λ place. if is_among first count q then record place { rights = rights } else place))
    (sym (fin_map.get-entries places q))

module _ (p : ℕ → Bool) where
  -- a test holds of some page of a range
  pub Decides-any_in_range : (first count : ℕ)
      → Decides (list_any p (range_with_len first count)) ((q : ℕ) × (first ≤ q) × (q < first + count) × (p q ≡ true))
  Decides-any_in_range first zero = (λ e. absurd (cc), λ w. absurd (omega (arith, w.1, w.2)))
  Decides-any_in_range first (suc count) =
      let rest = list_any p (range_with_len (first + 1) count) in
      let later = Decides-any_in_range (first + 1) count in
      elim (p first)
      as (λ b. p first ≡ b → Decides (b || rest) ((q : ℕ) × (first ≤ q) × (q < first + suc count) × (p q ≡ true))) [
        | true ↦ λ e. (λ _. (first, omega arith, omega arith, e), λ _. refl)
        | false ↦ λ e. (
          λ h. let w = later.0 h in (w.0, omega (arith, w.1), omega (arith, w.2), w.3),
          λ w.
              let other : w.0 ≢ first = λ same. absurd (false≢true (sym e ∙ ap p (sym same) ∙ w.3)) in
              later.1 (w.0, omega (arith, other, w.1), omega (arith, w.2), w.3),
        )
      ] refl

  -- a test holds of each page of a range
  pub Decides-all_in_range : (first count : ℕ)
      → Decides (list_all p (range_with_len first count)) ((q : ℕ) → first ≤ q → q < first + count → p q ≡ true)
  Decides-all_in_range first zero = (λ e q low high. absurd (omega arith), λ w. refl)
  Decides-all_in_range first (suc count) =
      let rest = list_all p (range_with_len (first + 1) count) in
      let later = Decides-all_in_range (first + 1) count in
      elim (p first)
      as (λ b. p first ≡ b → Decides (b && rest) ((q : ℕ) → first ≤ q → q < first + suc count → p q ≡ true)) [
        | true ↦ λ e. (
          λ h q low high. elim (cases_lt first q) [
            | inl above ↦ later.0 h q (omega arith) (omega arith)
            | inr here ↦ subst (λ q. p q ≡ true) {x = first} (omega arith) e
          ],
          λ w. later.1 (λ q low high. w q (omega arith) (omega arith)),
        )
        | false ↦ λ e.
            (λ h. absurd (false≢true h), λ w. absurd (false≢true (sym e ∙ w first (omega arith) (omega arith))))
      ] refl
