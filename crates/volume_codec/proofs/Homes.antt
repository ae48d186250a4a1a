-- Home blocks that rise.
use Rattle.std.proofs.Common.{ℕ, zero, suc, ◌+◌, ◌<◌, ◌≤◌, List, [], ◌∷◌, length, get_or, arith}
use Rattle.volume_codec.specs.Descriptor.{RiseWithin}

-- each lies within the bounds
pub rising_at : (low high : ℕ) (homes : List ℕ) (i : ℕ) → RiseWithin low high homes → i < length homes
    → (low ≤ get_or homes i 0) × (get_or homes i 0 < high)
rising_at low high [] i rise h = absurd (omega arith)
rising_at low high (n ∷ ns) zero rise h = (rise.0, rise.1)
rising_at low high (n ∷ ns) (suc i) rise h =
    let r = rising_at (n + 1) high ns i rise.2 (omega arith) in
    (omega (arith, rise.0, r.0), r.1)

-- a later one is above an earlier one
pub rising_apart : (low high : ℕ) (homes : List ℕ) (i k : ℕ) → RiseWithin low high homes → i < k → k < length homes
    → get_or homes i 0 < get_or homes k 0
rising_apart low high [] i k rise h l = absurd (omega arith)
rising_apart low high (n ∷ ns) i zero rise h l = absurd (omega arith)
rising_apart low high (n ∷ ns) zero (suc k) rise h l =
    let r = rising_at (n + 1) high ns k rise.2 (omega arith) in omega (arith, r.0)
rising_apart low high (n ∷ ns) (suc i) (suc k) rise h l =
    rising_apart (n + 1) high ns i k rise.2 (omega arith) (omega arith)
