-- Which of some batches have a home block.
use Rattle.std.proofs.Common.{ℕ, zero, suc, ◌+◌, ◌-◌, ◌<◌, ◌≤◌, List, [], ◌∷◌, length, get_or, inl, inr, refl, arith}
use Rattle.std.specs.List.{Contains}
use Rattle.volume_codec.specs.Recovery.{Batch}
use Rattle.journal.specs.inside.Tied.{IsCovered}
use Rattle.std.proofs.lemmas.Bool.{cases_lt}
use Rattle.volume_codec.specs.Layout.{GeometryValue, descriptor_block, descriptor_blocks}
use Rattle.machine_log.specs.Shown.{HasHomeBlock, IsOfJournal}

pub has_at : (opened : List Batch) (k : ℕ) (d : Batch) (b : ℕ) → k < length opened
    → Contains (get_or opened k d).homes b → HasHomeBlock opened b
has_at [] k d b lt has = absurd (omega (arith, lt))
has_at (batch ∷ older) zero d b lt has = inl has
has_at (batch ∷ older) (suc k) d b lt has = inr (has_at older k d b (omega (arith, lt)) has)

pub none_has : (opened : List Batch) (b : ℕ)
    → ((k : ℕ) (d : Batch) → k < length opened → Contains (get_or opened k d).homes b → ⊥)
    → HasHomeBlock opened b → ⊥
none_has [] b none has = has
none_has (batch ∷ older) b none (inl has) = none 0 batch (omega arith) has
none_has (batch ∷ older) b none (inr later) =
    none_has older b (λ k d lt has. none (suc k) d (omega (arith, lt)) has) later

-- one of them that has it
pub one_has : (opened : List Batch) (b : ℕ) → HasHomeBlock opened b
    → (batch : Batch) × Contains opened batch × Contains batch.homes b
one_has [] b has = absurd has
one_has (batch ∷ older) b (inl has) = (batch, (0, omega arith, refl), has)
one_has (batch ∷ older) b (inr later) =
    let one = one_has older b later in
    let at = one.1 in
    (one.0, (suc at.0, omega (arith, at.1), at.2), one.2)

pub covered : (opened : List Batch) (b : ℕ) → HasHomeBlock opened b → IsCovered opened b
covered [] b has = has
covered (batch ∷ older) b (inl has) = inl has
covered (batch ∷ older) b (inr later) = inr (covered older b later)

-- a block behind a gate, up to the end of the journal
pub of_journal : (g : GeometryValue) (j b : ℕ) → descriptor_block g.slots j ≤ b
    → b < descriptor_block g.slots j + (descriptor_blocks g.slots + g.slots) → IsOfJournal g j b
of_journal g j b low high = elim (cases_lt (b - descriptor_block g.slots j) (descriptor_blocks g.slots)) [
  | inl lt ↦ inl (b - descriptor_block g.slots j, lt, omega (arith, low))
  | inr ge ↦ inr (
    b - descriptor_block g.slots j - descriptor_blocks g.slots,
    omega (arith, low, high, ge),
    omega (arith, low, ge),
  )
]

pub journal_within : (g : GeometryValue) (j b : ℕ) → IsOfJournal g j b
    → (descriptor_block g.slots j ≤ b) × (b < descriptor_block g.slots j + (descriptor_blocks g.slots + g.slots))
journal_within g j b (inl at) = (omega (arith, at.2), omega (arith, at.1, at.2))
journal_within g j b (inr at) = (omega (arith, at.2), omega (arith, at.1, at.2))
