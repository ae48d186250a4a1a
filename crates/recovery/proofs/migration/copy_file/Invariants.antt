use Rattle.std.proofs.Common.{◌≡◌, ◌≤◌, ◌-◌, take, slice_index, Ok}
use Rattle.device.specs.Device.{written}
use Rattle.recovery.specs.Migration.{Copies}
use Rattle.recovery.specs.Volume.{files_of, bytes_of}
use Rattle.recovery.proofs.migration.copy_file.Given as goal

abbrev pub invariant-loop-at : goal.invariant-loop-at
invariant-loop-at g l = record {
  high : l.at ≤ l.size;
  copies : Copies {X = Unit {0}} g.D.Device g.E.Device l.to
      (slice_index l.initial.old.lengths l.file) l.initial.old l.initial.new (Ok tt) l.old l.new;
  copied : g.D.Device.is_honest l.initial.old.device → g.E.Device.is_honest l.initial.new
      → g.E.Device.seen l.new ≡ written (g.E.Device.seen l.initial.new) l.to
      (take l.at (bytes_of (files_of l.initial.old.table (g.D.Device.seen l.initial.old.device)) l.file));
}

abbrev pub decreases-loop-at : goal.decreases-loop-at
decreases-loop-at g l = l.size - l.at
