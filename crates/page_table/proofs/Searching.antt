-- A loop from one set bit of a mask to the next.
use Rattle.std.proofs.Common.{◌≡◌, ℕ, ◌+◌, ◌*◌, ◌/◌, ◌≤◌, ◌<◌, Bool, true, false, List, refl, arith}
use Rattle.page_table.specs.Bits.{is_set, IsSet}
use Rattle.page_table.specs.inside.Marks.{HasMarks}

-- It has come to a place between the first and the end, and what is done up to there holds.
pub record SoFar (is_done : ℕ → Type 0) (first end place : ℕ) : Type 0 where
  pub low : first ≤ place
  pub high : place ≤ end
  pub done : is_done place

-- then it goes on past the next bit that is set
pub SoFar-next : {was is : ℕ → Type 0} {mask : List ℕ} {first end place at : ℕ} → SoFar was first end place
    → IsSet mask place end at → is (at + 1) → SoFar is first end (at + 1)
SoFar-next so_far found done =
    record { low = omega (arith, so_far.low, found.low); high = omega (arith, found.high); done = done }

-- What is done to the set bits from a first place up to an end: two parts make one, and where no bit is set there is
-- nothing to do.
pub record IsPiecewise {S : Type 0} (mask : List ℕ) (Done : ℕ → ℕ → S → S → Type 0) : Type 0 where
  pub joined : (first mid end : ℕ) (old now new : S) → first ≤ mid → mid ≤ end → Done first mid old now
      → Done mid end now new → Done first end old new
  pub unset : (first place end : ℕ) (old new : S) → place ≤ end → Done first place old new
      → ((i : ℕ) → place ≤ i → i < end → is_set mask i ≡ false) → Done first end old new

-- between nodes in use nothing is marked
pub unused_between : (ws present in_use : List ℕ) → HasMarks ws present in_use → (node used : ℕ)
    → ((n : ℕ) → node ≤ n → n < used → is_set in_use n ≡ false) → (i : ℕ) → node * 512 ≤ i → i < used * 512
    → is_set present i ≡ false
unused_between ws present in_use marks node used none i low high = by_bit (is_set present i) refl
  where
    by_bit : (b : Bool) → is_set present i ≡ b → b ≡ false
    by_bit false is = refl
    by_bit true is = absurd (let on = marks.used i is in let off = none (i / 512) (omega arith) (omega arith) in cc)

module _ {S : Type 0} {mask : List ℕ} {Done : ℕ → ℕ → S → S → Type 0} (pieces : IsPiecewise mask Done) where
  -- one more bit
  pub done-next : {first place end at : ℕ} {old now new : S} → first ≤ place → Done first place old now
      → IsSet mask place end at → Done at (at + 1) now new → Done first (at + 1) old new
  done-next {first} {place} {end} {at} {old} {now} {new} low done found one =
      pieces.joined first at (at + 1) old now new (omega (arith, low, found.low)) (omega arith)
      (pieces.unset first place at old now found.low done found.before) one

  -- one more node in use, with a bit for each of its words
  pub done-node : {ws in_use : List ℕ} {node end used : ℕ} {old now new : S} → HasMarks ws mask in_use
      → Done 0 (node * 512) old now → IsSet in_use node end used → Done (used * 512) ((used + 1) * 512) now new
      → Done 0 ((used + 1) * 512) old new
  done-node {ws} {in_use} {node} {end} {used} {old} {now} {new} marks done found one =
      pieces.joined 0 (used * 512) ((used + 1) * 512) old now new (omega arith) (omega arith)
      (pieces.unset 0 (node * 512) (used * 512) old now (omega (arith, found.low)) done
      (unused_between ws mask in_use marks node used found.before)) one
