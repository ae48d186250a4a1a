-- Bytes that are 0.
use Rattle.std.proofs.Common.{◌≡◌, ◌≤◌, ◌<◌, ◌==◌, ℕ, zero, suc, ◌+◌, Bool, true, false, List, [], ◌∷◌, length, get_or}
use Rattle.std.proofs.Common.{Result, Ok, Err, OnOk, refl, ◌∙◌, ap, arith}
use Rattle.std.specs.List.{list_all}
use Rattle.std.specs.Prelude.{◌&&◌, IsErr}
use Rattle.std.proofs.lemmas.Bool.{eqb-true}
use Rattle.device.specs.Device.{written, Torn}
use Rattle.device.proofs.Public.{written_after, torn_after}
use Rattle.new_volume.specs.Formatting.{IsZero}
use Rattle.new_volume.specs.NewFile.{IsBlankFrom}

from_both : (a b : Bool) → (a && b) ≡ true → (a ≡ true) × (b ≡ true)
from_both true b is = (refl, is)
from_both false b is = absurd (cc)

-- a test of each byte finds that all are 0
pub zero_each : (bytes : List ℕ) → list_all (λ byte. byte == 0) bytes ≡ true → IsZero bytes
zero_each [] all i = refl
zero_each (x ∷ bytes) all zero = eqb-true x 0 (from_both (x == 0) _ all).0
zero_each (x ∷ bytes) all (suc i) = zero_each bytes (from_both (x == 0) _ all).1 i

pub each_zero : (bytes : List ℕ) → IsZero bytes → list_all (λ byte. byte == 0) bytes ≡ true
each_zero [] zeros = refl
each_zero (suc x ∷ bytes) zeros = absurd (omega (arith, zeros 0))
each_zero (zero ∷ bytes) zeros = each_zero bytes (λ i. zeros (suc i))

-- past what is written, or torn, all stays 0
pub still_blank : {T E : Type 0} (result : Result T E) (at before end size : ℕ) (bytes old new : List ℕ)
    → before ≤ end → ((i : ℕ) → end ≤ i → i < size → at + length bytes ≤ i) → length new ≡ length old
    → OnOk result (new ≡ written old at bytes) → (IsErr result → Torn at (length bytes) old new)
    → IsBlankFrom before size old → IsBlankFrom end size new
still_blank (Ok x) at before end size bytes old new later over same done failed blank = record {
  long = omega (arith, same, blank.long);
  zero = λ i past low. ap (λ (l : List ℕ). get_or l i 0) done
      ∙ written_after old at bytes i (omega (arith, over i past low, low, blank.long)) (over i past low)
      ∙ blank.zero i (omega (arith, later, past)) low;
}
still_blank (Err e) at before end size bytes old new later over same done failed blank = record {
  long = omega (arith, same, blank.long);
  zero = λ i past low. torn_after (failed refl) i (over i past low) ∙ blank.zero i (omega (arith, later, past)) low;
}
