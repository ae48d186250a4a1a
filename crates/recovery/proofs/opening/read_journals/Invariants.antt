use Rattle.std.proofs.Common.{◌≡◌, ◌≤◌, ◌*◌, Ok, length}
use Rattle.std.specs.List.{AllByRecursion}
use Rattle.journal.specs.WriteOut.{IsBatch}
use Rattle.volume_codec.specs.Layout.{descriptor_blocks}
use Rattle.volume_codec.specs.Recovery.{AreFalling}
use Rattle.recovery.specs.Counts.{Rises, IsAccounted}
use Rattle.recovery.specs.Reading.{IsOnlyRead}
use Rattle.recovery.specs.inside.Reading.{batches_of, AreRead}
use Rattle.recovery.proofs.opening.read_journals.Given as goal

abbrev pub invariant-loop-journal : goal.invariant-loop-journal
invariant-loop-journal g l = record {
  kept : IsAccounted {X = Unit {0}} g.D.Device l.initial.device (Ok tt) l.device;
  read : IsOnlyRead g.D.Device l.initial.device l.device;
  found : g.D.Device.is_honest l.initial.device
      → AreRead l.geometry (g.D.Device.seen l.initial.device) l.journal (batches_of l.found.items);
  falling : AreFalling (batches_of l.found.items);
  carry : AllByRecursion (IsBatch l.geometry) (batches_of l.found.items);
  room : length l.buffer ≡ 4096 * descriptor_blocks l.geometry.slots;
  few : length l.found.items ≤ l.journal;
  calls : Rises (length l.found.items) (g.D.Device.calls_made l.initial.device) (g.D.Device.calls_made l.device);
}
