use Rattle.std.proofs.Common.{◌≡◌, ℕ, List, ◌++◌, ◌+◌, ◌*◌, ◌%◌, ◌^◌, ◌≤◌, length, take}
use Rattle.xxh64.specs.Xxh64.{HasTaken, HasMessage}
use Rattle.xxh64.proofs.Xxh64.update.Given as goal

abbrev pub invariant-stripes : goal.invariant-stripes
invariant-stripes l = (l.self.total ≡ (l.fn.self.total + length l.bytes) % 2 ^ 64) × (l.self.seed ≡ l.fn.self.seed)
    × (l.start + 32 * l.i ≤ length l.bytes) × ((seed : ℕ) (m : List ℕ) → HasMessage l.fn.self seed m
    → HasTaken seed l.self.lanes l.self.buffer (m ++ take (l.start + 32 * l.i) l.bytes)
    × ((length m + l.start) % 32 ≡ 0))
