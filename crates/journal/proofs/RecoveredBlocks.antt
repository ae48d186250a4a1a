-- Which blocks stand for home blocks, and which batches lie in a journal.
use Rattle.std.proofs.Common.{◌≡◌, ◌≢◌, ℕ, zero, suc, ◌+◌, ◌<◌, ◌≤◌, ◌⊎◌, inl, inr, true, false, cond}
use Rattle.std.proofs.Common.{◌==◌, List, [], ◌∷◌, ◌++◌, length, get_or, refl, sym, ap, ◌∙◌, subst, arith}
use Rattle.std.specs.List.{AllByRecursion, Contains}
use Rattle.std.proofs.lemmas.Bool.{cases_eq, cond-true, cond-false, eq-eqb, ne_eqb, eqb-true}
use Rattle.std.proofs.lemmas.Bool.{or_parts, or_left, or_right, or_from, or_cases, both_ways}
use Rattle.volume_codec.specs.Layout.{record_block, block_at}
use Rattle.volume_codec.specs.Recovery.{Batch, has_journal, record_or, recovered_block}
use Rattle.journal.specs.inside.Tied.{IsCovered}
use Rattle.journal.proofs.Alls.{IsIn}

-- the record of its place, or the other block where it has no place
pub record_or-cases : (other records : ℕ) (homes : List ℕ) (b : ℕ)
    → ((i : ℕ) × (i < length homes) × (get_or homes i 0 ≡ b) × (record_or other records homes b ≡ records + i))
    ⊎ ((Contains homes b → ⊥) × (record_or other records homes b ≡ other))
record_or-cases other records [] b = inr (λ c. absurd (omega (arith, c.1)), refl)
record_or-cases other records (home ∷ homes) b = by (cases_eq b home) (record_or-cases other (records + 1) homes b)
  where
    by : (b ≡ home) ⊎ (b ≡ home → ⊥)
        → ((i : ℕ) × (i < length homes) × (get_or homes i 0 ≡ b)
        × (record_or other (records + 1) homes b ≡ records + 1 + i))
        ⊎ ((Contains homes b → ⊥) × (record_or other (records + 1) homes b ≡ other))
        → ((i : ℕ) × (i < length (home ∷ homes)) × (get_or (home ∷ homes) i 0 ≡ b)
        × (record_or other records (home ∷ homes) b ≡ records + i))
        ⊎ ((Contains (home ∷ homes) b → ⊥) × (record_or other records (home ∷ homes) b ≡ other))
    by (inl same) rest = inl (
      0,
      omega arith,
      sym same,
      cond-true (b == home) records (record_or other (records + 1) homes b) (eq-eqb b home same) ∙ omega arith,
    )
    by (inr not) (inl at) = inl (
      suc at.0,
      omega (arith, at.1),
      at.2,
      cond-false (b == home) records (record_or other (records + 1) homes b) (ne_eqb b home not) ∙ at.3 ∙ omega arith,
    )
    by (inr not) (inr none) = inr (
      λ c. nowhere c.0 c.1 c.2,
      cond-false (b == home) records (record_or other (records + 1) homes b) (ne_eqb b home not) ∙ none.1,
    )
      where
        nowhere : (k : ℕ) → k < length (home ∷ homes) → get_or (home ∷ homes) k b ≡ b → ⊥
        nowhere zero lt is = not (sym is)
        nowhere (suc k) lt is = none.0 (k, omega arith, is)

-- where two other blocks have the same bytes, so have the blocks that stand
pub record_or-same : (f : ℕ → List ℕ) (other another records : ℕ) (homes : List ℕ) (b : ℕ) → f other ≡ f another
    → f (record_or other records homes b) ≡ f (record_or another records homes b)
record_or-same f other another records [] b same = same
record_or-same f other another records (home ∷ homes) b same =
    elim (b == home) as (λ t. f (cond t records (record_or other (records + 1) homes b))
    ≡ f (cond t records (record_or another (records + 1) homes b))) [
      | true ↦ refl
      | false ↦ record_or-same f other another (records + 1) homes b same
    ]

-- ---- journals

pub lacks : (batches : List Batch) (j : ℕ) → has_journal batches j ≡ false
    → AllByRecursion (λ (batch : Batch). batch.journal ≢ j) batches
lacks [] j none = tt
lacks (batch ∷ older) j none =
    let parts = or_parts (batch.journal == j) (has_journal older j) none in
    (λ e. both_ways (batch.journal == j) parts.0 (eq-eqb batch.journal j e), lacks older j parts.1)

pub lacking : (batches : List Batch) (j : ℕ) → AllByRecursion (λ (batch : Batch). batch.journal ≢ j) batches
    → has_journal batches j ≡ false
lacking [] j none = refl
lacking (batch ∷ older) j none =
    or_from (batch.journal == j) (has_journal older j) (ne_eqb batch.journal j none.0) (lacking older j none.1)

-- a batch whose journal isn't the one that they have
pub apart_by : (batches : List Batch) (j k : ℕ) → has_journal batches j ≡ false → has_journal batches k ≡ true → k ≢ j
apart_by batches j k none some e =
    both_ways (has_journal batches j) none (subst (λ n. has_journal batches n ≡ true) e some)

-- ---- blocks that stand

-- this is a record slot of one of the batches
pub record IsSlot (slots : ℕ) (batches : List Batch) (block : ℕ) : Type 0 where
  pub journal : ℕ
  pub has : has_journal batches journal ≡ true
  pub slot : ℕ
  pub within : slot < slots
  pub at : block ≡ record_block slots journal slot

pub slot_of_newest : (slots : ℕ) (batch : Batch) (older : List Batch) (i : ℕ)
    → i < slots → (block : ℕ) → block ≡ record_block slots batch.journal 0 + i
    → IsSlot slots (batch ∷ older) block
slot_of_newest slots batch older i within block is = record {
  journal = batch.journal;
  has = or_left (batch.journal == batch.journal) (has_journal older batch.journal)
      (eq-eqb batch.journal batch.journal refl);
  slot = i;
  within = within;
  at = is ∙ omega arith;
}

pub slot_of_older : (slots : ℕ) (batch : Batch) (older : List Batch) (block : ℕ) → IsSlot slots older block
    → IsSlot slots (batch ∷ older) block
slot_of_older slots batch older block is = record {
  journal = is.journal;
  has = or_right (batch.journal == is.journal) (has_journal older is.journal) is.has;
  slot = is.slot;
  within = is.within;
  at = is.at;
}

-- no batch has more records than there are slots
abbrev pub AreFew : ℕ → List Batch → Type 0
AreFew slots batches = AllByRecursion (λ (batch : Batch). length batch.homes ≤ slots) batches

-- a record slot, or the home block itself
pub recovered-cases : (slots : ℕ) (batches : List Batch) (b : ℕ) → AreFew slots batches
    → IsSlot slots batches (recovered_block slots batches b) ⊎ (recovered_block slots batches b ≡ b)
recovered-cases slots [] b few = inr refl
recovered-cases slots (batch ∷ older) b few =
    elim (record_or-cases (recovered_block slots older b) (record_block slots batch.journal 0) batch.homes b) [
      | inl at ↦ inl (slot_of_newest slots batch older at.0 (omega (arith, at.1, few.0)) _ at.3)
      | inr none ↦ elim (recovered-cases slots older b few.1) [
        | inl is ↦ inl (slot_of_older slots batch older _ (subst (IsSlot slots older) (sym none.1) is))
        | inr same ↦ inr (none.1 ∙ same)
      ]
    ]

-- a record slot stands for a block that has a record
pub recovered-recorded : (slots : ℕ) (batches : List Batch) (b : ℕ) → AreFew slots batches → IsCovered batches b
    → IsSlot slots batches (recovered_block slots batches b)
recovered-recorded slots [] b few covered = absurd covered
recovered-recorded slots (newest ∷ older) b few covered =
    elim (record_or-cases (recovered_block slots older b) (record_block slots newest.journal 0) newest.homes b) [
      | inl at ↦ slot_of_newest slots newest older at.0 (omega (arith, at.1, few.0)) _ at.3
      | inr none ↦ elim covered [
        | inl here ↦ absurd (none.0 here)
        | inr later ↦
            slot_of_older slots newest older _
            (subst (IsSlot slots older) (sym none.1) (recovered-recorded slots older b few.1 later))
      ]
    ]

-- a batch of these that has a record of the block
pub covered_of : (batches : List Batch) (batch : Batch) (b : ℕ) → IsIn batch batches → Contains batch.homes b
    → IsCovered batches b
covered_of [] batch b there has = absurd there
covered_of (x ∷ older) batch b (inl e) has = inl (subst (λ (y : Batch). Contains y.homes b) (sym e) has)
covered_of (x ∷ older) batch b (inr later) has = inr (covered_of older batch b later has)

-- the other block plays no part where there is a record
record_or-inside : (other another records : ℕ) (homes : List ℕ) (b : ℕ) → Contains homes b
    → record_or other records homes b ≡ record_or another records homes b
record_or-inside other another records [] b has = absurd (omega (arith, has.1))
record_or-inside other another records (home ∷ homes) b has = elim (cases_eq b home) [
  | inl same ↦
      (let at = eq-eqb b home same in
      cond-true (b == home) records (record_or other (records + 1) homes b) at
      ∙ sym (cond-true (b == home) records (record_or another (records + 1) homes b) at))
  | inr not ↦
      (let at = ne_eqb b home not in
      cond-false (b == home) records (record_or other (records + 1) homes b) at
      ∙ record_or-inside other another (records + 1) homes b (later not has.0 has.1 has.2)
      ∙ sym (cond-false (b == home) records (record_or another (records + 1) homes b) at))
]
  where
    later : (b ≡ home → ⊥) → (k : ℕ) → k < length (home ∷ homes) → get_or (home ∷ homes) k b ≡ b → Contains homes b
    later not zero lt is = absurd (not (sym is))
    later not (suc k) lt is = (k, omega arith, is)

-- older batches play no part where one of these has a record
recovered-covered : (f : ℕ → List ℕ) (slots : ℕ) (front rest : List Batch) (b : ℕ) → IsCovered front b
    → f (recovered_block slots (front ++ rest) b) ≡ f (recovered_block slots front b)
recovered-covered f slots [] rest b covered = absurd covered
recovered-covered f slots (x ∷ front) rest b (inl has) =
    ap f (record_or-inside (recovered_block slots (front ++ rest) b) (recovered_block slots front b)
    (record_block slots x.journal 0) x.homes b has)
recovered-covered f slots (x ∷ front) rest b (inr later) =
    record_or-same f (recovered_block slots (front ++ rest) b) (recovered_block slots front b)
    (record_block slots x.journal 0) x.homes b (recovered-covered f slots front rest b later)

-- where what stands in the oldest batch has the bytes of the home block, it may be left out
recovered-at_home : (f : ℕ → List ℕ) (slots : ℕ) (front : List Batch) (oldest : Batch) (b : ℕ)
    → f (recovered_block slots (oldest ∷ []) b) ≡ f b
    → f (recovered_block slots (front ++ oldest ∷ []) b) ≡ f (recovered_block slots front b)
recovered-at_home f slots [] oldest b same = same
recovered-at_home f slots (batch ∷ front) oldest b same =
    record_or-same f (recovered_block slots (front ++ oldest ∷ []) b) (recovered_block slots front b)
    (record_block slots batch.journal 0) batch.homes b (recovered-at_home f slots front oldest b same)

-- each home block of the oldest batch has its record's bytes, or a record in a newer batch
abbrev pub AreHome : ℕ → List Batch → Batch → List ℕ → Type 0
AreHome slots front oldest bytes = (i : ℕ) → i < length oldest.homes
    → IsCovered front (get_or oldest.homes i 0)
    ⊎ (block_at bytes (get_or oldest.homes i 0) ≡ block_at bytes (record_block slots oldest.journal i))

-- then the oldest may be left out
pub recovered-without_oldest : (slots : ℕ) (front : List Batch) (oldest : Batch) (bytes : List ℕ)
    → AreHome slots front oldest bytes → (b : ℕ)
    → block_at bytes (recovered_block slots (front ++ oldest ∷ []) b) ≡ block_at bytes (recovered_block slots front b)
recovered-without_oldest slots front oldest bytes are b =
    elim (record_or-cases b (record_block slots oldest.journal 0) oldest.homes b) [
      | inl at ↦ elim (are at.0 at.1) [
        | inl covered ↦
            recovered-covered (block_at bytes) slots front (oldest ∷ []) b (subst (IsCovered front) at.2 covered)
        | inr same ↦
            (let place : record_block slots oldest.journal 0 + at.0 ≡ record_block slots oldest.journal at.0 =
            omega arith in
            recovered-at_home (block_at bytes) slots front oldest b
            (ap (block_at bytes) (at.3 ∙ place) ∙ sym same ∙ ap (block_at bytes) at.2))
      ]
      | inr none ↦ recovered-at_home (block_at bytes) slots front oldest b (ap (block_at bytes) none.1)
    ]

-- a journal that a batch has is one of those that there are
pub has-below : (n : ℕ) (batches : List Batch) (j : ℕ)
    → AllByRecursion (λ (batch : Batch). batch.journal < n) batches → has_journal batches j ≡ true
    → j < n
has-below n [] j below has = absurd (both_ways false refl has)
has-below n (batch ∷ older) j below has =
    elim (or_cases (batch.journal == j) (has_journal older j) has) [
      | inl here ↦ subst (λ k. k < n) (eqb-true batch.journal j here) below.0
      | inr later ↦ has-below n older j below.1 later
    ]
