-- Tests of numbers that are known to hold or to fail.
use Rattle.std.proofs.Common.{◌≡◌, ◌≢◌, ℕ, ◌+◌, ◌<◌, ◌≤◌, Bool, true, false, eqb}
use Rattle.std.proofs.Common.{ltb, not, is_some, List, Option, Some, None, arith}
use Rattle.std.proofs.lemmas.Bool.Decides.{nat_tests}
use Rattle.page_table.specs.Table.{in_range}
use Rattle.page_table.specs.Bits.{is_set, IsFirstSet}

pub eq_true : (a b : ℕ) → a ≡ b → eqb a b ≡ true
eq_true a b same = grind (arith, nat_tests)

pub eq_false : (a b : ℕ) → a ≢ b → eqb a b ≡ false
eq_false a b other = grind (arith, nat_tests)

pub within_range : (first end i : ℕ) → first ≤ i → i < end → in_range first end i ≡ true
within_range first end i low high = grind (arith, nat_tests)

pub below_range : (first end i : ℕ) → i < first → in_range first end i ≡ false
below_range first end i below = grind (arith, nat_tests)

pub past_range : (first end i : ℕ) → end ≤ i → in_range first end i ≡ false
past_range first end i past = grind (arith, nat_tests)

pub other_than : (page q : ℕ) → q ≢ page → in_range page (page + 1) q ≡ false
other_than page q other = grind (arith, nat_tests)

pub some_true : (n : ℕ) → 0 < n → ltb 0 n ≡ true
some_true n some = grind (arith, nat_tests)

pub none_of : (n : ℕ) (b : Bool) → b ≡ ltb 0 n → b ≡ false → n ≡ 0
none_of n b is none = grind (arith, nat_tests)

pub test_of : (n : ℕ) (b : Bool) → b ≡ ltb 0 n → n ≢ 0 → b ≡ true
test_of n b is some = grind (arith, nat_tests)

pub not_zero : (n : ℕ) → not (eqb n 0) ≡ ltb 0 n
not_zero n = grind (arith, nat_tests)

pub some_used : (n : ℕ) (b : Bool) → b ≡ not (eqb n 0) → n ≢ 0 → b ≡ false → ⊥
some_used n b is some unused = absurd (let here = eq_false n 0 some in cc)

-- a search that finds nothing
pub none_set : (mask : List ℕ) (first end : ℕ) (found : Option ℕ)
    → IsFirstSet mask first end found → is_some found ≡ false → (i : ℕ) → first ≤ i → i < end
    → is_set mask i ≡ false
none_set mask first end None none missed = none
none_set mask first end (Some place) here missed = absurd (cc)

pub not_less : (a b : ℕ) → ltb a b ≡ false → b ≤ a
not_less a b test = grind (arith, nat_tests)
