use Rattle.std.proofs.Common.{◌≡◌, ℕ, ◌+◌, drop}
use Rattle.recovery.specs.inside.Reading.{batches_of, HasMark, IsPlaceOf}
use Rattle.recovery.proofs.opening.place_of.Given as goal

abbrev pub invariant-loop-other : goal.invariant-loop-other
invariant-loop-other g l = record {
  at : l.place ≡ l.other-index;
  place : (k : ℕ) → IsPlaceOf l.mark (batches_of (drop l.other-index l.found)) k
      → IsPlaceOf l.mark (batches_of l.found) (l.place + k);
  mark : HasMark l.mark (batches_of (drop l.other-index l.found)) → HasMark l.mark (batches_of l.found);
}
