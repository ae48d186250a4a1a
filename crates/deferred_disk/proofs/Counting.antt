-- Writes and syncs that are counted as they are recorded.
use Rattle.std.proofs.Common.{◌≡◌, ℕ, ◌+◌, ◌-◌, ◌^◌, List, ◌∷◌, arith}
use Rattle.std.specs.Prelude.{min}
use Rattle.device.specs.Memory.{DiskChange}
use Rattle.deferred_disk.specs.inside.Deferring.{AreCounted}

-- one more was counted
pub counted_more : (count more : ℕ) (changes : List DiskChange) (change : DiskChange) → AreCounted count changes
    → more ≡ min (count + 1) (2 ^ 64 - 1) → AreCounted more (change ∷ changes)
counted_more count more changes change are is = omega (arith, are, is)
