use Rattle.std.proofs.Common.{◌≡◌, ◌++◌, List, Ok, length}
use Rattle.std.specs.List.{AllByRecursion}
use Rattle.volume_codec.specs.Recovery.{Batch}
use Rattle.journal.specs.WriteOut.{IsBatch}
use Rattle.recovery.specs.Counts.{IsAccounted}
use Rattle.recovery.specs.inside.Carrying.{IsCarrying}
use Rattle.recovery.specs.inside.Reading.{batches_of}
use Rattle.recovery.proofs.opening.carry_out_all.Given as goal

abbrev pub invariant-loop-oldest : goal.invariant-loop-oldest
invariant-loop-oldest g l = record {
  kept : IsAccounted {X = Unit {0}} g.D.Device l.initial.device (Ok tt) l.device;
  carry : AllByRecursion (IsBatch l.geometry) (batches_of l.waiting.items);
  under : (done : List Batch) × (batches_of l.initial.waiting.items ≡ batches_of l.waiting.items ++ done)
      × AllByRecursion (IsBatch l.geometry) done
      × IsCarrying g.D.Device l.geometry (batches_of l.initial.waiting.items)
      (batches_of l.waiting.items) done l.initial.device l.device;
}

abbrev pub decreases-loop-oldest : goal.decreases-loop-oldest
decreases-loop-oldest g l = length l.waiting.items
