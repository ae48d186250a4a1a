use Rattle.std.proofs.Common.{◌≡◌, ◌⊎◌, ℕ, Some, nat_eq}
use Rattle.std.specs.List.{Contains}
use Rattle.indexmap.specs.IndexMap.{get}
use Rattle.log_opening.proofs.youngest.note.Given as goal

abbrev pub invariant-loop-i : goal.invariant-loop-i
invariant-loop-i g l = record {
  had : (b k : ℕ) → get nat_eq l.youngest b ≡ Some k
      → (get nat_eq l.initial.youngest b ≡ Some k) ⊎ ((k ≡ l.place) × Contains l.homes b);
}
