-- One bit of a mask set or cleared.
use Rattle.std.proofs.Common.{◌≡◌, ◌≢◌, ℕ, ◌*◌, ◌/◌, ◌%◌, ◌^◌, ◌<◌, Bool, true, false, eqb, List}
use Rattle.std.proofs.Common.{length, get_or, set, refl, sym, ap, ◌∙◌, inl, inr, w64, arith}
use Rattle.std.specs.Int.{bit_at, bit_not}
use Rattle.std.specs.Int.RustNames.{bit_and, bit_or}
use Rattle.std.proofs.lemmas.Bool.{cases_eq}
use Rattle.std.proofs.lemmas.Bool.Decides.{nat_tests}
use Rattle.std.proofs.lemmas.List.{length-set, get_or-set_same, get_or-set_other}
use Rattle.std.proofs.lemmas.Nat.Bits.{bit_at_set_same, bit_at_set_other, bit_at_clear_same, bit_at_clear_other}
use Rattle.page_table.specs.Bits.{is_set, Marks}

module _ (mask : List ℕ) (place value : ℕ) (within : place < length mask * 64) where
  word_other : (i : ℕ) → i / 64 ≢ place / 64 → is_set (set mask (place / 64) value) i ≡ is_set mask i
  word_other i other =
      ap (λ n. eqb (n / 2 ^ (i % 64) % 2) 1) (get_or-set_other mask (place / 64) (i / 64) value 0 other)

  word_same : (i : ℕ) → i / 64 ≡ place / 64 → is_set (set mask (place / 64) value) i ≡ eqb (bit_at value (i % 64)) 1
  word_same i same = ap (λ n. eqb (n / 2 ^ (i % 64) % 2) 1) (ap (λ n. get_or (set mask (place / 64) value) n 0) same
      ∙ get_or-set_same mask (place / 64) value 0 (omega arith))

  pub Marks-word : (t : Bool) → eqb (bit_at value (place % 64)) 1 ≡ t
      → ((i : ℕ) → i < 64 → i ≢ place % 64 → bit_at value i ≡ bit_at (get_or mask (place / 64) 0) i)
      → Marks place t mask (set mask (place / 64) value)
  Marks-word t here others = record {
    size = length-set mask (place / 64) value;
    bits = λ i. elim (cases_eq (i / 64) (place / 64)) [
      | inl same ↦ word_same i same ∙ elim (cases_eq i place) [
        | inl this ↦
            let at : eqb i place ≡ true = grind (arith, nat_tests) in
            ap (λ n. eqb (bit_at value n) 1) {x = i % 64} {y = place % 64} (ap (λ n. n % 64) this) ∙ here ∙ rw at refl
        | inr another ↦
            let at : eqb i place ≡ false = grind (arith, nat_tests) in
            ap (λ n. eqb n 1) (others (i % 64) (omega arith) (λ digit. another (omega arith))
            ∙ ap (λ n. bit_at (get_or mask n 0) (i % 64)) (sym same))
            ∙ rw at refl
      ]
      | inr other ↦
          let at : eqb i place ≡ false =
          (let differ : i ≢ place = λ this. other (ap (λ n. n / 64) this) in grind (arith, nat_tests)) in
          word_other i other ∙ rw at refl
    ];
  }

-- the word with the bit set, and with it cleared
pub Marks-set : (mask : List ℕ) (place : ℕ) → place < length mask * 64
    → Marks place true mask
    (set mask (place / 64) (bit_or (get_or mask (place / 64) 0) (1 * 2 ^ (place % 64) % 2 ^ 64)))
Marks-set mask place within =
    let n = get_or mask (place / 64) 0 in
    Marks-word mask place _ within true (ap (λ b. eqb b 1) (bit_at_set_same w64 n (place % 64) (omega arith)))
    (λ i less other. bit_at_set_other w64 n (place % 64) (omega arith) i other)

pub Marks-cleared : (mask : List ℕ) (place : ℕ) → place < length mask * 64
    → Marks place false mask
    (set mask (place / 64) (bit_and (get_or mask (place / 64) 0) (bit_not w64 (1 * 2 ^ (place % 64) % 2 ^ 64))))
Marks-cleared mask place within =
    let n = get_or mask (place / 64) 0 in
    Marks-word mask place _ within false (ap (λ b. eqb b 1) (bit_at_clear_same w64 n (place % 64) (omega arith)))
    (λ i less other. bit_at_clear_other w64 n (place % 64) (omega arith) i less other)
