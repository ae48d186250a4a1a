use Rattle.std.proofs.Common.{◌≡◌, drop}
use Rattle.std.specs.List.{AllByRecursion}
use Rattle.volume_codec.specs.Recovery.{recovered_block}
use Rattle.journal.specs.WriteOut.{IsBatch}
use Rattle.recovery.specs.inside.Reading.{batches_of}
use Rattle.recovery.proofs.opening.find_block.Given as goal

abbrev pub invariant-loop-newest : goal.invariant-loop-newest
invariant-loop-newest g l = record {
  recovered : recovered_block l.geometry.slots (batches_of (drop l.newest-index l.found)) l.home
      ≡ recovered_block l.geometry.slots (batches_of l.found) l.home;
  carry : AllByRecursion (IsBatch l.geometry) (batches_of (drop l.newest-index l.found));
}
