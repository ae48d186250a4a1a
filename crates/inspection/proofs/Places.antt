-- The file that a home block belongs to.
use Rattle.std.proofs.Common.{◌≡◌, ℕ, zero, suc, ◌+◌, ◌-◌, ◌<◌, ◌≤◌, if◌then◌else◌, length}
use Rattle.std.proofs.Common.{slice_index, Some, ap, subst, ◌∙◌, sym, inl, inr, arith}
use Rattle.std.proofs.lemmas.Bool.{le-leb, lt-leb, cases_eq}
use Rattle.volume_codec.specs.Super.{SuperValue, pages_of, first_home_of, capacities_in}
use Rattle.volume_codec.proofs.Places.{first_home_of-next}
use Rattle.inspection.specs.Places.{place_before}

place_here : (v : SuperValue) (h i : ℕ) → first_home_of v i ≤ h
    → place_before v h (suc i) ≡ Some (record { file = i; page = h - first_home_of v i })
place_here v h i le = ap (λ b. if b then Some (record { file = i; page = h - first_home_of v i })
    else place_before v h i) (le-leb (first_home_of v i) h le)

place_earlier : (v : SuperValue) (h i : ℕ) → h < first_home_of v i → place_before v h (suc i) ≡ place_before v h i
place_earlier v h i less = ap (λ b. if b then Some (record { file = i; page = h - first_home_of v i })
    else place_before v h i) (lt-leb (first_home_of v i) h less)

-- the last file begins after it
pub place_down : (v : SuperValue) (h n : ℕ) → 0 < n → h < first_home_of v (n - 1)
    → place_before v h n ≡ place_before v h (n - 1)
place_down v h n some less =
    let last : n ≡ suc (n - 1) = omega arith in
    ap (place_before v h) last ∙ place_earlier v h (n - 1) less

later_homes : (v : SuperValue) (i d : ℕ) → i + d ≤ length v.files → first_home_of v i ≤ first_home_of v (i + d)
later_homes v i zero le =
    let same : i + zero ≡ i = omega arith in
    omega (arith, ap (first_home_of v) same)
later_homes v i (suc d) le =
    let last : i + suc d ≡ i + d + 1 = omega arith in
    omega (
      arith,
      later_homes v i d (omega arith),
      first_home_of-next v (i + d) (omega arith),
      ap (first_home_of v) last,
    )

-- page p of file i
pub place_of_page : (v : SuperValue) (i p n : ℕ) → i < n → n ≤ length v.files
    → p < pages_of (slice_index (capacities_in v) i)
    → place_before v (first_home_of v i + p) n ≡ Some (record { file = i; page = p })
place_of_page v i p zero below within small = absurd (omega arith)
place_of_page v i p (suc m) below within small = elim (cases_eq i m) [
  | inl same ↦
      let P : ℕ → Type 0 = λ k. place_before v (first_home_of v k + p) (suc m) ≡ Some (record { file = k; page = p }) in
      let page : first_home_of v m + p - first_home_of v m ≡ p = omega arith in
      subst P (sym same)
      (place_here v (first_home_of v m + p) m (omega arith) ∙ ap (λ k. Some (record { file = m; page = k })) page)
  | inr other ↦
      let d = m - (i + 1) in
      let at : i + 1 + d ≡ m = omega arith in
      let after : first_home_of v i + p < first_home_of v m = omega (
        arith,
        first_home_of-next v i (omega arith),
        later_homes v (i + 1) d (omega arith),
        ap (first_home_of v) at,
      ) in
      place_earlier v (first_home_of v i + p) m after ∙ place_of_page v i p m (omega arith) (omega arith) small
]
