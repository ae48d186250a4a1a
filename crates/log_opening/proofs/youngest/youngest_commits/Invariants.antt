use Rattle.std.proofs.Common.{nat_eq}
use Rattle.indexmap.specs.IndexMap.{get}
use Rattle.log_recovery.specs.Reading.{chain_of}
use Rattle.log_opening.specs.inside.Places.{ArePlaces}
use Rattle.log_opening.proofs.youngest.youngest_commits.Given as goal

abbrev pub invariant-loop-place : goal.invariant-loop-place
invariant-loop-place g l = record {
  are : ArePlaces (chain_of l.found.commits.items) (get nat_eq l.youngest);
}
