-- Where the parts of a volume lie: apart, and within it.
use Rattle.std.proofs.Common.{◌≢◌, ℕ, ◌+◌, ◌*◌, ◌<◌, ◌≤◌, inl, inr, ap, arith}
use Rattle.std.proofs.Math.Nat.{mul-le-mul_right}
use Rattle.std.proofs.lemmas.Bool.{cases_order}
use Rattle.volume_codec.specs.declared.layout.Layout.{Layout}
use Rattle.volume_codec.specs.Layout.{journals_of, journal_blocks, descriptor_blocks}
use Rattle.volume_codec.specs.Layout.{gate_block, descriptor_block, record_block, first_home}

-- a journal ends before a later one begins
journal_before : (S j k : ℕ) → j < k → j * journal_blocks S + journal_blocks S ≤ k * journal_blocks S
journal_before S j k lt =
    let over : (j + 1) * journal_blocks S ≤ k * journal_blocks S = mul-le-mul_right (journal_blocks S) (omega arith) in
    omega arith

-- there is a block of the descriptor
pub descriptor_some : (S : ℕ) → 0 < descriptor_blocks S
descriptor_some S = omega arith

module _ (layout : Layout) (S : ℕ) where
  pub gate-below : (j : ℕ) → j < journals_of layout → gate_block S j < first_home layout S
  gate-below j lt = omega (arith, journal_before S j (journals_of layout) lt)

  pub descriptor-below : (j i : ℕ) → j < journals_of layout → i < descriptor_blocks S
      → descriptor_block S j + i < first_home layout S
  descriptor-below j i lt within = omega (arith, journal_before S j (journals_of layout) lt)

  pub record-below : (j i : ℕ) → j < journals_of layout → i < S → record_block S j i < first_home layout S
  record-below j i lt within = omega (arith, journal_before S j (journals_of layout) lt)

module _ (S : ℕ) where
  pub gate-above : (j : ℕ) → gate_block S j ≢ 0
  gate-above j e = omega arith

  pub descriptor-above : (j i : ℕ) → descriptor_block S j + i ≢ 0
  descriptor-above j i e = omega arith

  pub record-above : (j i : ℕ) → record_block S j i ≢ 0
  record-above j i e = omega arith

  pub gates_apart : (j k : ℕ) → j ≢ k → gate_block S j ≢ gate_block S k
  gates_apart j k other e = elim (cases_order j k) [
    | inl same ↦ other same
    | inr (inl lt) ↦ omega (arith, journal_before S j k lt)
    | inr (inr gt) ↦ omega (arith, journal_before S k j gt)
  ]

  pub descriptors_apart : (j k i l : ℕ) → j ≢ k → i < descriptor_blocks S → l < descriptor_blocks S
      → descriptor_block S j + i ≢ descriptor_block S k + l
  descriptors_apart j k i l other within_i within_l e = elim (cases_order j k) [
    | inl same ↦ other same
    | inr (inl lt) ↦ omega (arith, journal_before S j k lt)
    | inr (inr gt) ↦ omega (arith, journal_before S k j gt)
  ]

  pub gate_no_descriptor : (j k i : ℕ) → i < descriptor_blocks S → gate_block S j ≢ descriptor_block S k + i
  gate_no_descriptor j k i within e = elim (cases_order j k) [
    | inl same ↦ omega (arith, ap (λ x. x * journal_blocks S) same)
    | inr (inl lt) ↦ omega (arith, journal_before S j k lt)
    | inr (inr gt) ↦ omega (arith, journal_before S k j gt)
  ]

  pub gate_no_record : (j k i : ℕ) → i < S → gate_block S j ≢ record_block S k i
  gate_no_record j k i within e = elim (cases_order j k) [
    | inl same ↦ omega (arith, ap (λ x. x * journal_blocks S) same)
    | inr (inl lt) ↦ omega (arith, journal_before S j k lt)
    | inr (inr gt) ↦ omega (arith, journal_before S k j gt)
  ]

  pub descriptor_no_record : (j k i l : ℕ) → i < descriptor_blocks S → l < S
      → descriptor_block S j + i ≢ record_block S k l
  descriptor_no_record j k i l within_i within_l e = elim (cases_order j k) [
    | inl same ↦ omega (arith, ap (λ x. x * journal_blocks S) same)
    | inr (inl lt) ↦ omega (arith, journal_before S j k lt)
    | inr (inr gt) ↦ omega (arith, journal_before S k j gt)
  ]

  pub records_apart : (j k i l : ℕ) → j ≢ k → i < S → l < S → record_block S j i ≢ record_block S k l
  records_apart j k i l other within_i within_l e = elim (cases_order j k) [
    | inl same ↦ other same
    | inr (inl lt) ↦ omega (arith, journal_before S j k lt)
    | inr (inr gt) ↦ omega (arith, journal_before S k j gt)
  ]
