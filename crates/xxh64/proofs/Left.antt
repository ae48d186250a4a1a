-- What is left depends on the bytes that are counted alone, and the digest of a hasher.
use Rattle.std.proofs.Common.{◌≡◌, ℕ, zero, suc, ◌+◌, ◌*◌, ◌/◌, ◌%◌, ◌<◌, ◌≤◌, Bool, true, false, List, length, take}
use Rattle.std.proofs.Common.{drop, refl, sym, ap, ◌∙◌, arith, if◌then◌else◌, inl, inr, ◌^◌}
use Rattle.std.specs.Prelude.{slice_index, nat_lt}
use Rattle.std.proofs.lemmas.List.{get_or-take}
use Rattle.xxh64.specs.Xxh64.{word_at, half_at, with_word, with_half, with_byte, words_after, half_after, bytes_after}
use Rattle.xxh64.specs.Xxh64.{rest_after, before_rest, mixed, xxh64, HasTaken, lanes_after}

-- the bytes below a number are those of the list's first ones
byte_of : (n : ℕ) (rest : List ℕ) (i : ℕ) → i < n → slice_index (take n rest) i ≡ slice_index rest i
byte_of n rest i lt = get_or-take n rest i 0 lt

word_of : (n : ℕ) (rest : List ℕ) (i : ℕ) → i + 8 ≤ n → word_at (take n rest) i ≡ word_at rest i
word_of n rest i fits =
    rw (
      byte_of n rest i (omega arith),
      byte_of n rest (i + 1) (omega arith),
      byte_of n rest (i + 2) (omega arith),
      byte_of n rest (i + 3) (omega arith),
      byte_of n rest (i + 4) (omega arith),
      byte_of n rest (i + 5) (omega arith),
      byte_of n rest (i + 6) (omega arith),
      byte_of n rest (i + 7) (omega arith),
    ) refl

half_of : (n : ℕ) (rest : List ℕ) (i : ℕ) → i + 4 ≤ n → half_at (take n rest) i ≡ half_at rest i
half_of n rest i fits =
    rw (
      byte_of n rest i (omega arith),
      byte_of n rest (i + 1) (omega arith),
      byte_of n rest (i + 2) (omega arith),
      byte_of n rest (i + 3) (omega arith),
    ) refl

words_of : (n acc : ℕ) (rest : List ℕ) (k : ℕ) → 8 * k ≤ n → words_after acc (take n rest) k ≡ words_after acc rest k
unfolding words_after
words_of n acc rest zero fits = refl
words_of n acc rest (suc k) fits = rw (words_of n acc rest k (omega arith), word_of n rest (8 * k) (omega arith)) refl

bytes_of : (n acc : ℕ) (rest : List ℕ) (from k : ℕ) → from + k ≤ n
    → bytes_after acc (take n rest) from k ≡ bytes_after acc rest from k
unfolding bytes_after
bytes_of n acc rest from zero fits = refl
bytes_of n acc rest from (suc k) fits =
    rw (bytes_of n acc rest from k (omega arith), byte_of n rest (from + k) (omega arith)) refl

half_cases : (n acc : ℕ) (rest : List ℕ) → half_after acc (take n rest) n ≡ half_after acc rest n
half_cases n acc rest = by (nat_lt (n % 8) 4) refl
  where
    by : (b : Bool) → nat_lt (n % 8) 4 ≡ b → (if b then acc else with_half acc (half_at (take n rest) (n / 8 * 8)))
        ≡ (if b then acc else with_half acc (half_at rest (n / 8 * 8)))
    by true e = refl
    by false e = ap (with_half acc) (half_of n rest (n / 8 * 8) (grind (arith, e)))

pub rest_of : (n acc : ℕ) (rest : List ℕ) → rest_after acc (take n rest) n ≡ rest_after acc rest n
rest_of n acc rest =
    bytes_of n _ rest (n / 4 * 4) (n % 4) (omega arith)
    ∙ ap (λ x. bytes_after x rest (n / 4 * 4) (n % 4)) (half_cases n _ rest
    ∙ ap (λ x. half_after x rest n) (words_of n acc rest (n / 8) (omega arith)))

-- the digest by what a hasher has taken
pub digest_of : (seed : ℕ) (lanes buffer m : List ℕ) → HasTaken seed lanes buffer m
    → mixed (rest_after (before_rest seed lanes (length m)) buffer (length m % 32)) ≡ xxh64 seed m
unfolding xxh64
digest_of seed lanes buffer m has =
    let n = length m % 32 in
    let left : rest_after (before_rest seed lanes (length m)) buffer n
    ≡ rest_after (before_rest seed lanes (length m)) (drop (length m / 32 * 32) m) n =
    sym (rest_of n (before_rest seed lanes (length m)) buffer)
    ∙ ap (λ (l : List ℕ). rest_after (before_rest seed lanes (length m)) l n) has.left in
    ap mixed (left
    ∙ ap (λ (l : List ℕ). rest_after (before_rest seed l (length m)) (drop (length m / 32 * 32) m) n) has.stripes)
