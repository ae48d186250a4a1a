use Rattle.std.proofs.Common.{◌≡◌, length}
use Rattle.recovery.specs.Reading.{IsOnlyRead}
use Rattle.inspection.specs.Found.{AreFrom}
use Rattle.inspection.proofs.reading.read_journals.Given as goal

abbrev pub invariant-loop-journal : goal.invariant-loop-journal
invariant-loop-journal g l = record {
  read : IsOnlyRead g.D.Device l.initial.device l.device;
  len : length (g.D.Device.seen l.device) ≡ length (g.D.Device.seen l.initial.device);
  count : length l.found.items ≡ l.journal;
  say : g.D.Device.is_honest l.initial.device → AreFrom l.geometry (g.D.Device.seen l.initial.device) 0 l.found.items;
}
