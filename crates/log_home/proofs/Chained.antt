-- The newest record of a home block in a chain.
use Rattle.std.proofs.Common.{◌≡◌, ◌⊎◌, ℕ, zero, suc, ◌+◌, ◌-◌, ◌<◌, ◌≤◌, ◌==◌, List, [], ◌∷◌, ◌++◌}
use Rattle.std.proofs.Common.{Bool, true, false, cond, length, get_or, inl, inr, refl, sym, ap, subst, ◌∙◌, arith}
use Rattle.std.specs.Prelude.{⊤, Option, Some, None}
use Rattle.std.specs.List.{Contains}
use Rattle.std.proofs.lemmas.Bool.{cases_eq, false≢true}
use Rattle.std.proofs.lemmas.Bool.Decides.{nat_tests}
use Rattle.log_codec.specs.Log.{LogValue, ring_block, log_descriptor_blocks, log_commit_blocks}
use Rattle.log_codec.specs.Commit.{LogDescriptor}
use Rattle.log_codec.specs.Chain.{logged_or, newest_or, records_position, position_after, chain_end}
use Rattle.log_commits.specs.Tail.{AreRead}
use Rattle.log_commits.specs.Homes.{IsLoggedHome}
use Rattle.log_home.specs.declared.index.Newest.{Newest}
use Rattle.log_home.specs.Index.{recorded_or, newest_of_chain}

-- ---- options

some_is : {x y : Newest} → Some x ≡ Some y → x ≡ y
some_is {x} {y} is = ap (λ o. or_this x o) is
  where
    or_this : Newest → Option Newest → Newest
    or_this d None = d
    or_this d (Some n) = n

pub none_some : {n : Newest} → (let o : Option Newest = None in o) ≡ Some n → ⊥
none_some is = absurd (false≢true (ap is_there is))
  where
    is_there : Option Newest → Bool
    is_there None = false
    is_there (Some n) = true

-- ---- a commit has a home block, or the record is another one

pub recorded_cases : (homes : List ℕ) (b : ℕ)
    → Contains homes b ⊎ ((ring : ℕ) (other : Option Newest) (p number : ℕ)
    → recorded_or ring other p number homes b ≡ other)
recorded_cases [] b = inr (λ ring other p number. refl)
recorded_cases (home ∷ homes) b = elim (cases_eq home b) [
  | inl is ↦ inl (0, omega arith, is)
  | inr apart ↦ elim (recorded_cases homes b) [
    | inl has ↦ inl (suc has.0, omega (arith, has.1), has.2)
    | inr none ↦ inr (λ ring other p number.
        let test : (b == home) ≡ false = grind (arith, nat_tests) in
        ap (λ (t : Bool). cond t (Some (record { number = number; block = ring_block ring p }))
        (recorded_or ring other (p + 1) number homes b)) test
        ∙ none ring other (p + 1) number)
  ]
]

pub newest_of_cases : (ds : List LogDescriptor) (b : ℕ)
    → IsLoggedHome ds b ⊎ ((ring : ℕ) (other : Option Newest) (p : ℕ) → newest_of_chain ring other p ds b ≡ other)
newest_of_cases [] b = inr (λ ring other p. refl)
newest_of_cases (d ∷ ds) b = elim (recorded_cases d.homes b) [
  | inl has ↦ inl (inl has)
  | inr none ↦ elim (newest_of_cases ds b) [
    | inl has ↦ inl (inr has)
    | inr later ↦ inr (λ ring other p.
        later ring (recorded_or ring other (records_position p d) d.number d.homes b) (position_after p d)
        ∙ none ring other (records_position p d) d.number)
  ]
]

-- a record is one of a commit that has the home block
pub logged_by : (ring p : ℕ) (ds : List LogDescriptor) (b : ℕ) (n : Newest) → newest_of_chain ring None p ds b ≡ Some n
    → IsLoggedHome ds b
logged_by ring p ds b n is = elim (newest_of_cases ds b) [
  | inl has ↦ has
  | inr none ↦ absurd (none_some (sym (none ring None p) ∙ is))
]

recorded_some : (homes : List ℕ) (b k : ℕ) → k < length homes → get_or homes k b ≡ b
    → (ring : ℕ) (other : Option Newest) (p number : ℕ)
    → (n : Newest) × (recorded_or ring other p number homes b ≡ Some n)
recorded_some [] b k lt is ring other p number = absurd (omega arith)
recorded_some (home ∷ homes) b zero lt is ring other p number =
    let test : (b == home) ≡ true = grind (arith, nat_tests) in
    let n : Newest = record { number = number; block = ring_block ring p } in (
      n,
      ap (λ (t : Bool). cond t (Some n) (recorded_or ring other (p + 1) number homes b)) test,
    )
recorded_some (home ∷ homes) b (suc k) lt is ring other p number =
    let rest = recorded_some homes b k (omega arith) is ring other (p + 1) number in
    let n : Newest = record { number = number; block = ring_block ring p } in
    elim (b == home) as (λ t. (m : Newest)
    × (cond t (Some n) (recorded_or ring other (p + 1) number homes b) ≡ Some m)) [
      | true ↦ (n, refl)
      | false ↦ rest
    ]

pub newest_some : (ds : List LogDescriptor) (b : ℕ) → IsLoggedHome ds b → (ring : ℕ) (other : Option Newest) (p : ℕ)
    → (n : Newest) × (newest_of_chain ring other p ds b ≡ Some n)
newest_some [] b is ring other p = absurd is
newest_some (d ∷ ds) b (inl has) ring other p =
    let here = recorded_some d.homes b has.0 has.1 has.2 ring other (records_position p d) d.number in
    elim (newest_of_cases ds b) [
      | inl later ↦
          newest_some ds b later ring (recorded_or ring other (records_position p d) d.number d.homes b)
          (position_after p d)
      | inr none ↦ (
        here.0,
        none ring (recorded_or ring other (records_position p d) d.number d.homes b) (position_after p d) ∙ here.1,
      )
    ]
newest_some (d ∷ ds) b (inr has) ring other p =
    newest_some ds b has ring (recorded_or ring other (records_position p d) d.number d.homes b) (position_after p d)

-- ---- its block

abbrev pub Agree : Option Newest → ℕ → Type 0
Agree o k = (n : Newest) → o ≡ Some n → k ≡ n.block

recorded_block : (ring : ℕ) (other : Option Newest) (one p number : ℕ) (homes : List ℕ) (b : ℕ) → Agree other one
    → Agree (recorded_or ring other p number homes b) (logged_or ring one p homes b)
recorded_block ring other one p number [] b agree = agree
recorded_block ring other one p number (home ∷ homes) b agree =
    let rest = recorded_block ring other one (p + 1) number homes b agree in
    let n : Newest = record { number = number; block = ring_block ring p } in
    elim (b == home) as (λ t. Agree (cond t (Some n) (recorded_or ring other (p + 1) number homes b))
    (cond t (ring_block ring p) (logged_or ring one (p + 1) homes b))) [
      | true ↦ (λ m is. ap (λ (x : Newest). x.block) (some_is is))
      | false ↦ rest
    ]

pub newest_block : (ring : ℕ) (other : Option Newest) (one p : ℕ) (ds : List LogDescriptor) (b : ℕ) → Agree other one
    → Agree (newest_of_chain ring other p ds b) (newest_or ring one p ds b)
newest_block ring other one p [] b agree = agree
newest_block ring other one p (d ∷ ds) b agree =
    newest_block ring (recorded_or ring other (records_position p d) d.number d.homes b)
    (logged_or ring one (records_position p d) d.homes b) (position_after p d) ds b
    (recorded_block ring other one (records_position p d) d.number d.homes b agree)

-- ---- its number

-- the commits have numbers in order
abbrev pub AreNumbered : ℕ → List LogDescriptor → Type 0
AreNumbered number [] = ⊤
AreNumbered number (d ∷ ds) = (d.number ≡ number) × AreNumbered (number + 1) ds

pub numbered : (g : LogValue) (epoch p number left : ℕ) (ds : List LogDescriptor) (bytes : List ℕ)
    → AreRead g epoch p number left ds bytes → AreNumbered number ds
numbered g epoch p number left [] bytes is = tt
numbered g epoch p number left (d ∷ ds) bytes is = (
  is.0.number_is,
  numbered g epoch (position_after p d) (number + 1) (left - log_commit_blocks (length d.homes)) ds
      bytes is.1,
)

pub numbered_front : (number : ℕ) (ds es : List LogDescriptor) → AreNumbered number (ds ++ es) → AreNumbered number ds
numbered_front number [] es is = tt
numbered_front number (d ∷ ds) es is = (is.0, numbered_front (number + 1) ds es is.1)

pub numbered_behind : (number : ℕ) (ds es : List LogDescriptor) → AreNumbered number (ds ++ es)
    → AreNumbered (number + length ds) es
numbered_behind number [] es is =
    let here : number ≡ number + 0 = omega arith in subst (λ n. AreNumbered n es) here is
numbered_behind number (d ∷ ds) es is =
    let there : number + 1 + length ds ≡ number + length (d ∷ ds) = omega arith in
    subst (λ n. AreNumbered n es) there (numbered_behind (number + 1) ds es is.1)

recorded_number : (ring : ℕ) (other : Option Newest) (p number : ℕ) (homes : List ℕ) (b : ℕ) (n : Newest)
    → recorded_or ring other p number homes b ≡ Some n → (other ≡ Some n) ⊎ (n.number ≡ number)
recorded_number ring other p number [] b n is = inl is
recorded_number ring other p number (home ∷ homes) b n is =
    let here : Newest = record { number = number; block = ring_block ring p } in
    let rest = recorded_number ring other (p + 1) number homes b n in
    by_test (b == home) rest is
  where
    by_test : (t : Bool)
        → (recorded_or ring other (p + 1) number homes b ≡ Some n → (other ≡ Some n) ⊎ (n.number ≡ number))
        → cond t (Some (record { number = number; block = ring_block ring p }))
        (recorded_or ring other (p + 1) number homes b) ≡ Some n
        → (other ≡ Some n) ⊎ (n.number ≡ number)
    by_test true rest is = inr (sym (ap (λ (x : Newest). x.number) (some_is is)))
    by_test false rest is = rest is

pub newest_number : (ring : ℕ) (other : Option Newest) (p number : ℕ) (ds : List LogDescriptor) (b : ℕ) (n : Newest)
    → AreNumbered number ds → newest_of_chain ring other p ds b ≡ Some n
    → (other ≡ Some n) ⊎ ((number ≤ n.number) × (n.number < number + length ds))
newest_number ring other p number [] b n are is = inl is
newest_number ring other p number (d ∷ ds) b n are is =
    elim (newest_number ring (recorded_or ring other (records_position p d) d.number d.homes b) (position_after p d)
    (number + 1) ds b n are.1 is) [
      | inl here ↦ elim (recorded_number ring other (records_position p d) d.number d.homes b n here) [
        | inl before ↦ inl before
        | inr now ↦ inr (omega (arith, now, are.0), omega (arith, now, are.0))
      ]
      | inr later ↦ inr (omega (arith, later.0), omega (arith, later.1))
    ]

-- ---- two chains, one behind the other

pub newest_of_split : (ring : ℕ) (other : Option Newest) (p : ℕ) (ds es : List LogDescriptor) (b : ℕ)
    → newest_of_chain ring other p (ds ++ es) b
    ≡ newest_of_chain ring (newest_of_chain ring other p ds b) (chain_end p ds) es b
newest_of_split ring other p [] es b = refl
newest_of_split ring other p (d ∷ ds) es b =
    newest_of_split ring (recorded_or ring other (records_position p d) d.number d.homes b) (position_after p d) ds es b

-- an old number is one of the first chain, unless the second one has the home block
pub young_by : (ring p number : ℕ) (ds es : List LogDescriptor) (b : ℕ) (n : Newest) → AreNumbered number (ds ++ es)
    → newest_of_chain ring None p (ds ++ es) b ≡ Some n → number + length ds ≤ n.number → IsLoggedHome es b
young_by ring p number ds es b n are is young = elim (newest_of_cases es b) [
  | inl has ↦ has
  | inr none ↦
      let first : newest_of_chain ring None p ds b ≡ Some n =
      sym (none ring (newest_of_chain ring None p ds b) (chain_end p ds))
      ∙ sym (newest_of_split ring None p ds es b) ∙ is in
      elim (newest_number ring None p number ds b n (numbered_front number ds es are) first) [
        | inl never ↦ absurd (none_some never)
        | inr within ↦ absurd (omega (arith, within.1, young))
      ]
]

-- ---- a whole round makes no difference

abbrev pub SameRound : ℕ → ℕ → ℕ → Type 0
SameRound ring p q = (k : ℕ) → ring_block ring (q + k) ≡ ring_block ring (p + k)

round_behind : (ring p q a : ℕ) → SameRound ring p q → SameRound ring (p + a) (q + a)
round_behind ring p q a same = λ k.
    ap (ring_block ring) (omega arith) ∙ same (a + k) ∙ ap (ring_block ring) (omega arith)

pub recorded_round : (ring : ℕ) (other : Option Newest) (p q number : ℕ) (homes : List ℕ) (b : ℕ)
    → SameRound ring p q → recorded_or ring other q number homes b ≡ recorded_or ring other p number homes b
recorded_round ring other p q number [] b same = refl
recorded_round ring other p q number (home ∷ homes) b same =
    let zero_q : q ≡ q + 0 = omega arith in
    let zero_p : p + 0 ≡ p = omega arith in
    let here : ring_block ring q ≡ ring_block ring p =
    ap (ring_block ring) zero_q ∙ same 0 ∙ ap (ring_block ring) zero_p in
    let rest = recorded_round ring other (p + 1) (q + 1) number homes b (round_behind ring p q 1 same) in
    elim (b == home) as (λ t. cond t (Some (record { number = number; block = ring_block ring q }))
    (recorded_or ring other (q + 1) number homes b)
    ≡ cond t (Some (record { number = number; block = ring_block ring p }))
    (recorded_or ring other (p + 1) number homes b)) [
      | true ↦ ap (λ (x : ℕ). Some (record { number = number; block = x })) here
      | false ↦ rest
    ]

pub newest_of_round : (ring : ℕ) (other : Option Newest) (p q : ℕ) (ds : List LogDescriptor) (b : ℕ)
    → SameRound ring p q → newest_of_chain ring other q ds b ≡ newest_of_chain ring other p ds b
newest_of_round ring other p q [] b same = refl
newest_of_round ring other p q (d ∷ ds) b same =
    let blocks : ℕ = log_descriptor_blocks (length d.homes) in
    let n : ℕ = log_commit_blocks (length d.homes) in
    ap (λ x. newest_of_chain ring x (position_after q d) ds b)
    (recorded_round ring other (p + blocks) (q + blocks) d.number d.homes b (round_behind ring p q blocks same))
    ∙ newest_of_round ring (recorded_or ring other (p + blocks) d.number d.homes b) (p + n) (q + n) ds b
    (round_behind ring p q n same)
