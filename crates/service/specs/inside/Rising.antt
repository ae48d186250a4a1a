-- What a holder of a horizon has seen, after it looked once or not at all.
use Rattle.std.specs.Prelude.{◌≡◌, ◌≤◌}
use Rattle.horizon.specs.Seen.{SeenState}
use Rattle.service.specs.Marks.{Words}

-- Neither number fell, and the horizon is the same.
pub record HasRisen (old new : SeenState) : Type 0 where
  pub cell : new.cell ≡ old.cell
  pub stalled : old.stalled ≤ new.stalled
  pub committed : old.committed ≤ new.committed

-- the two words, without their horizon
abbrev pub seen_words : SeenState → Words
seen_words seen = record {
  stalled = seen.stalled;
  committed = seen.committed;
  stalled_raised = seen.stalled_raised;
  committed_raised = seen.committed_raised;
}
