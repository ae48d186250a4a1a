-- The flags of a processor as the bits of 64 words.
use Rattle.std.proofs.Common.{◌≡◌, ℕ, ◌/◌, ◌%◌, ◌^◌, ◌<◌, ◌≤◌, Bool, true, false, cond, eqb, List, length, get_or}
use Rattle.std.proofs.Common.{set, replicate, sym, ap, ◌∙◌, inl, inr, arith, get_or-set_same, get_or-set_other}
use Rattle.std.specs.Int.{bit_at}
use Rattle.std.specs.Int.RustNames.{bit_and}
use Rattle.std.proofs.lemmas.Bool.{cases_eq, cases_lt}
use Rattle.std.proofs.lemmas.Bool.Decides.{nat_tests}
use Rattle.std.proofs.lemmas.List.{length-set, length-replicate, get_or-replicate, get_or_past, ext_get_or}
use Rattle.std.proofs.lemmas.List.FromFn.{length-map-range_with_len, get_or-map-range_with_len}
use Rattle.std.proofs.lemmas.Nat.Bits.{bit_at-zero, shr_and_one}
use Rattle.page_table.specs.Bits.{is_set, Marks}
use Rattle.shootdown.specs.Processors.{pcids}
use Rattle.shootdown.specs.inside.Flags.{flags_of}

pub length-flags_of : (words : List ℕ) → length (flags_of words) ≡ pcids
unfolding flags_of
length-flags_of words = length-map-range_with_len (is_set words) 0 pcids

-- the flag of a PCID is its bit, and there is none past the last PCID
pub get_or-flags_of : (words : List ℕ) (pcid : ℕ) → pcid < pcids
    → get_or (flags_of words) pcid false ≡ is_set words pcid
unfolding flags_of
get_or-flags_of words pcid below = get_or-map-range_with_len (is_set words) 0 pcids pcid pcid false below (omega arith)

pub get_or-flags_of_past : (words : List ℕ) (pcid : ℕ) → pcids ≤ pcid → get_or (flags_of words) pcid false ≡ false
get_or-flags_of_past words pcid past = get_or_past (flags_of words) pcid false (omega (arith, length-flags_of words))

-- flags that are as the bits
pub flags_of-from_each : (words : List ℕ) (flags : List Bool) → length flags ≡ pcids
    → ((k : ℕ) → k < pcids → is_set words k ≡ get_or flags k false)
    → flags_of words ≡ flags
flags_of-from_each words flags size each =
    ext_get_or false (flags_of words) flags (length-flags_of words ∙ sym size)
    (λ k within. let below : k < pcids = omega (arith, length-flags_of words) in
    get_or-flags_of words k below ∙ each k below)

-- a bit is set or cleared
pub flags_of-marked : (old new : List ℕ) (pcid : ℕ) (b : Bool) → pcid < pcids → Marks pcid b old new
    → flags_of new ≡ set (flags_of old) pcid b
flags_of-marked old new pcid b within marks =
    flags_of-from_each new (set (flags_of old) pcid b) (length-set (flags_of old) pcid b ∙ length-flags_of old)
    (λ k below. marks.bits k ∙ elim (cases_eq k pcid) [
      | inl same ↦
          let e : eqb k pcid ≡ true = grind (arith, nat_tests) in
          ap (λ t. cond t b (is_set old k)) e
          ∙ sym (ap (λ n. get_or (set (flags_of old) pcid b) n false) same
          ∙ get_or-set_same (flags_of old) pcid b false (omega (arith, length-flags_of old)))
      | inr other ↦
          let e : eqb k pcid ≡ false = grind (arith, nat_tests) in
          ap (λ t. cond t b (is_set old k)) e
          ∙ sym (get_or-set_other (flags_of old) pcid k b false other ∙ get_or-flags_of old k below)
    ])

-- words of zeros
zeros_at : (n i : ℕ) → ◌≡◌ {A = ℕ} (get_or (replicate n 0) i 0) 0
zeros_at n i = elim (cases_lt i n) [
  | inl below ↦ get_or-replicate n i 0 0 below
  | inr past ↦ get_or_past (replicate n 0) i 0 (omega (arith, length-replicate {A = ℕ} n 0))
]

is_set-zeros : (n i : ℕ) → is_set (replicate n 0) i ≡ false
is_set-zeros n i =
    ap (λ word. eqb (bit_at word (i % 64)) 1) (zeros_at n (i / 64))
    ∙ ap (λ b. eqb b 1) (bit_at-zero (i % 64))

pub flags_of-zeros : (words count : ℕ) → count ≡ pcids → flags_of (replicate words 0) ≡ replicate count false
flags_of-zeros words count all =
    flags_of-from_each (replicate words 0) (replicate count false) (length-replicate count false ∙ all)
    (λ k below. is_set-zeros words k ∙ sym (get_or-replicate count k false false (omega arith)))

-- the test of a bit
pub bit_test : (words : List ℕ) (pcid : ℕ)
    → eqb (bit_and (get_or words (pcid / 64) 0 / 2 ^ (pcid % 64)) 1) 1 ≡ is_set words pcid
bit_test words pcid = ap (λ b. eqb b 1) (shr_and_one (get_or words (pcid / 64) 0) (pcid % 64))
