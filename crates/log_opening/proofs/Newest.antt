-- Which block has the newest record of a home block.
use Rattle.std.proofs.Common.{◌≡◌, ◌≢◌, ◌⊎◌, inl, inr, ℕ, zero, suc, ◌+◌, ◌<◌, ◌==◌, Bool, true, false, cond}
use Rattle.std.proofs.Common.{List, [], ◌∷◌, ◌++◌, length, take, get_or, refl, ap, ◌∙◌, arith}
use Rattle.std.specs.List.{Contains}
use Rattle.std.proofs.lemmas.Bool.{cases_eq}
use Rattle.std.proofs.lemmas.Bool.Decides.{nat_tests}
use Rattle.volume_codec.specs.Descriptor.{RiseWithin}
use Rattle.volume_codec.proofs.Public.{rising_at}
use Rattle.log_codec.specs.Log.{ring_block}
use Rattle.log_codec.specs.Commit.{LogDescriptor}
use Rattle.log_codec.specs.Chain.{records_position, position_after, chain_end, logged_or, newest_or}
use Rattle.log_opening.proofs.Rings.{ring_low}

-- this block is one of the ring
abbrev pub IsInRing : ℕ → ℕ → Type 0
IsInRing ring b = (q : ℕ) × (b ≡ ring_block ring q)

pub logged_cases : (ring other p : ℕ) (homes : List ℕ) (b : ℕ)
    → IsInRing ring (logged_or ring other p homes b) ⊎ (logged_or ring other p homes b ≡ other)
logged_cases ring other p [] b = inr refl
logged_cases ring other p (home ∷ homes) b =
    elim (b == home) as (λ t. IsInRing ring (cond t (ring_block ring p) (logged_or ring other (p + 1) homes b))
    ⊎ (cond t (ring_block ring p) (logged_or ring other (p + 1) homes b) ≡ other)) [
      | true ↦ inl (p, refl)
      | false ↦ logged_cases ring other (p + 1) homes b
    ]

-- the newest record lies in the ring, or no commit has one
pub newest_cases : (ring other p : ℕ) (ds : List LogDescriptor) (b : ℕ)
    → IsInRing ring (newest_or ring other p ds b) ⊎ (newest_or ring other p ds b ≡ other)
newest_cases ring other p [] b = inr refl
newest_cases ring other p (d ∷ ds) b =
    let before = logged_or ring other (records_position p d) d.homes b in
    elim (newest_cases ring before (position_after p d) ds b) [
      | inl there ↦ inl there
      | inr same ↦ elim (logged_cases ring other (records_position p d) d.homes b) [
        | inl there ↦ inl (there.0, same ∙ there.1)
        | inr none ↦ inr (same ∙ none)
      ]
    ]

-- from a block of the ring on, it stays in the ring
newest_from : (ring other p : ℕ) (ds : List LogDescriptor) (b : ℕ) → IsInRing ring other
    → IsInRing ring (newest_or ring other p ds b)
newest_from ring other p ds b from = elim (newest_cases ring other p ds b) [
  | inl there ↦ there
  | inr same ↦ (from.0, same ∙ from.1)
]

-- a home block at a place of a commit has a record there
logged_in : (ring other p : ℕ) (homes : List ℕ) (i : ℕ) → i < length homes
    → IsInRing ring (logged_or ring other p homes (get_or homes i 0))
logged_in ring other p [] i lt = absurd (omega arith)
logged_in ring other p (home ∷ homes) zero lt =
    let here : (home == home) ≡ true = grind (arith, nat_tests) in
    (p, ap (λ (t : Bool). cond t (ring_block ring p) (logged_or ring other (p + 1) homes home)) here)
logged_in ring other p (home ∷ homes) (suc i) lt =
    let rest = logged_in ring other (p + 1) homes i (omega arith) in
    elim (get_or homes i 0 == home) as (λ t. IsInRing ring
    (cond t (ring_block ring p) (logged_or ring other (p + 1) homes (get_or homes i 0)))) [
      | true ↦ (p, refl)
      | false ↦ rest
    ]

-- so its newest record lies in the ring
pub newest_in : (ring other p : ℕ) (ds es : List LogDescriptor) (d : LogDescriptor) (i : ℕ) → i < length d.homes
    → IsInRing ring (newest_or ring other p (ds ++ d ∷ es) (get_or d.homes i 0))
newest_in ring other p [] es d i lt =
    let b = get_or d.homes i 0 in
    newest_from ring (logged_or ring other (records_position p d) d.homes b) (position_after p d) es b
    (logged_in ring other (records_position p d) d.homes i lt)
newest_in ring other p (e ∷ ds) es d i lt =
    newest_in ring (logged_or ring other (records_position p e) e.homes (get_or d.homes i 0)) (position_after p e) ds es
    d i lt

-- one commit more
pub newest_next : (ring other p : ℕ) (ds : List LogDescriptor) (d : LogDescriptor) (b : ℕ)
    → newest_or ring other p (ds ++ d ∷ []) b
    ≡ logged_or ring (newest_or ring other p ds b) (records_position (chain_end p ds) d) d.homes b
newest_next ring other p [] d b = refl
newest_next ring other p (e ∷ ds) d b =
    newest_next ring (logged_or ring other (records_position p e) e.homes b) (position_after p e) ds d b

-- two tests that don't hold at once may change places
swap : {X : Type 0} (s t : Bool) (x y z : X) → (s ≡ true → t ≡ true → ⊥) → cond s x (cond t y z) ≡ cond t y (cond s x z)
swap true true x y z none = absurd (none refl refl)
swap true false x y z none = refl
swap false t x y z none = refl

-- one record more
pub logged_more : (ring other p low high : ℕ) (homes : List ℕ) (i b : ℕ) → RiseWithin low high homes → i < length homes
    → logged_or ring other p (take (i + 1) homes) b
    ≡ cond (b == get_or homes i 0) (ring_block ring (p + i)) (logged_or ring other p (take i homes) b)
logged_more ring other p low high [] i b rise lt = absurd (omega arith)
logged_more ring other p low high (home ∷ homes) zero b rise lt =
    let place : p ≡ p + 0 = omega arith in
    ap (λ n. cond (b == home) (ring_block ring n) other) place
logged_more ring other p low high (home ∷ homes) (suc i) b rise lt =
    let h : ℕ = get_or homes i 0 in
    let rest : ℕ = logged_or ring other (p + 1) (take i homes) b in
    let above = rising_at (home + 1) high homes i rise.2 (omega arith) in
    let next : suc i + 1 ≡ suc (i + 1) = omega arith in
    let place : p + 1 + i ≡ p + suc i = omega arith in
    let apart : (b == home) ≡ true → (b == h) ≡ true → ⊥ = λ one two.
    let here : b ≡ home = grind (arith, nat_tests, one) in
    let there : b ≡ h = grind (arith, nat_tests, two) in
    omega (arith, above.0, here, there) in
    ap (λ n. logged_or ring other p (take n (home ∷ homes)) b) next
    ∙ ap (λ x. cond (b == home) (ring_block ring p) x)
    (logged_more ring other (p + 1) (home + 1) high homes i b rise.2 (omega arith))
    ∙ ap (λ n. cond (b == home) (ring_block ring p) (cond (b == h) (ring_block ring n) rest)) place
    ∙ swap (b == home) (b == h) (ring_block ring p) (ring_block ring (p + suc i)) rest apart

-- a block that isn't the home block of one record more is read as before, and that one is read in the ring
pub logged_here : (ring other p low high : ℕ) (homes : List ℕ) (i b : ℕ) → RiseWithin low high homes → i < length homes
    → b ≡ get_or homes i 0 → logged_or ring other p (take (i + 1) homes) b ≡ ring_block ring (p + i)
logged_here ring other p low high homes i b rise lt is =
    let test : (b == get_or homes i 0) ≡ true = grind (arith, nat_tests) in
    logged_more ring other p low high homes i b rise lt
    ∙ ap (λ (t : Bool). cond t (ring_block ring (p + i)) (logged_or ring other p (take i homes) b)) test

pub logged_there : (ring other p low high : ℕ) (homes : List ℕ) (i b : ℕ) → RiseWithin low high homes → i < length homes
    → b ≢ get_or homes i 0
    → logged_or ring other p (take (i + 1) homes) b ≡ logged_or ring other p (take i homes) b
logged_there ring other p low high homes i b rise lt other_home =
    let test : (b == get_or homes i 0) ≡ false = grind (arith, nat_tests) in
    logged_more ring other p low high homes i b rise lt
    ∙ ap (λ (t : Bool). cond t (ring_block ring (p + i)) (logged_or ring other p (take i homes) b)) test

-- a commit that has the home block reads its record, whatever is read without it; and one that doesn't, reads that
pub logged_both : (ring p : ℕ) (homes : List ℕ) (b : ℕ)
    → ((q : ℕ) × ((other : ℕ) → logged_or ring other p homes b ≡ ring_block ring q))
    ⊎ ((other : ℕ) → logged_or ring other p homes b ≡ other)
logged_both ring p [] b = inr (λ other. refl)
logged_both ring p (home ∷ homes) b = elim (cases_eq b home) [
  | inl same ↦
      let test : (b == home) ≡ true = grind (arith, nat_tests) in
      inl (p, λ other. ap (λ (t : Bool). cond t (ring_block ring p) (logged_or ring other (p + 1) homes b)) test)
  | inr apart ↦
      let test : (b == home) ≡ false = grind (arith, nat_tests) in
      let rest : (other : ℕ) → logged_or ring other p (home ∷ homes) b ≡ logged_or ring other (p + 1) homes b =
      λ other. ap (λ (t : Bool). cond t (ring_block ring p) (logged_or ring other (p + 1) homes b)) test in
      elim (logged_both ring (p + 1) homes b) [
        | inl there ↦ inl (there.0, λ other. rest other ∙ there.1 other)
        | inr none ↦ inr (λ other. rest other ∙ none other)
      ]
]

contains_logged : (ring other p : ℕ) (homes : List ℕ) (b i : ℕ) → i < length homes → get_or homes i b ≡ b
    → IsInRing ring (logged_or ring other p homes b)
contains_logged ring other p [] b i lt is = absurd (omega arith)
contains_logged ring other p (home ∷ homes) b zero lt is =
    let here : (b == home) ≡ true = grind (arith, nat_tests) in
    (p, ap (λ (t : Bool). cond t (ring_block ring p) (logged_or ring other (p + 1) homes b)) here)
contains_logged ring other p (home ∷ homes) b (suc i) lt is =
    let rest = contains_logged ring other (p + 1) homes b i (omega arith) is in
    elim (b == home) as (λ t. IsInRing ring (cond t (ring_block ring p) (logged_or ring other (p + 1) homes b))) [
      | true ↦ (p, refl)
      | false ↦ rest
    ]

-- a commit that has the home block doesn't read what is read without it
pub contains_reads : (ring p : ℕ) (homes : List ℕ) (b : ℕ) → 0 < ring → Contains homes b
    → ((other : ℕ) → logged_or ring other p homes b ≡ other) → ⊥
contains_reads ring p homes b some has none =
    let there = contains_logged ring (4 + ring) p homes b has.0 has.1 has.2 in
    omega (arith, ring_low ring there.0 some, there.1, none (4 + ring))

-- below the first home block of a commit it has no record
logged_above : (ring other p low high : ℕ) (homes : List ℕ) (b : ℕ) → RiseWithin low high homes → b < low
    → logged_or ring other p homes b ≡ other
logged_above ring other p low high [] b rise lt = refl
logged_above ring other p low high (home ∷ homes) b rise lt =
    let test : (b == home) ≡ false = grind (arith, nat_tests, rise.0) in
    ap (λ (t : Bool). cond t (ring_block ring p) (logged_or ring other (p + 1) homes b)) test
    ∙ logged_above ring other (p + 1) (home + 1) high homes b rise.2 (omega (arith, rise.0))

-- the least home block is the first one of a commit, or it has no record
pub logged_least : (ring other p low high : ℕ) (homes : List ℕ) → RiseWithin low high homes → 0 < length homes
    → get_or homes 0 0 ≡ low → logged_or ring other p homes low ≡ ring_block ring p
logged_least ring other p low high [] rise some is = absurd (omega arith)
logged_least ring other p low high (home ∷ homes) rise some is =
    let test : (low == home) ≡ true = grind (arith, nat_tests) in
    ap (λ (t : Bool). cond t (ring_block ring p) (logged_or ring other (p + 1) homes low)) test

pub logged_no_least : (ring other p low high : ℕ) (homes : List ℕ) → RiseWithin low high homes
    → get_or homes 0 0 ≢ low → logged_or ring other p homes low ≡ other
logged_no_least ring other p low high [] rise is = refl
logged_no_least ring other p low high (home ∷ homes) rise is =
    let test : (low == home) ≡ false = grind (arith, nat_tests) in
    ap (λ (t : Bool). cond t (ring_block ring p) (logged_or ring other (p + 1) homes low)) test
    ∙ logged_above ring other (p + 1) (home + 1) high homes low rise.2 (omega (arith, rise.0))
