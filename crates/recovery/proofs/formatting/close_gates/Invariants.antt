use Rattle.std.proofs.Common.{◌-◌, ◌*◌, ℕ, List, Ok}
use Rattle.device.specs.Device.{Torn, TornFrom, LeavesOnly}
use Rattle.recovery.specs.Counts.{Rises, IsAccounted}
use Rattle.recovery.specs.inside.Erasing.{AreClosed}
use Rattle.recovery.proofs.formatting.close_gates.Given as goal

abbrev pub invariant-loop-journal : goal.invariant-loop-journal
invariant-loop-journal g l = record {
  closed : g.D.Device.is_honest l.initial.device
      → AreClosed l.geometry.slots l.journal (g.D.Device.seen l.initial.device) (g.D.Device.seen l.device);
  torn : g.D.Device.is_honest l.initial.device
      → Torn 4096 (4096 * l.geometry.blocks - 4096) (g.D.Device.seen l.initial.device) (g.D.Device.seen l.device);
  left : (c : List ℕ) → g.D.Device.may_leave l.device c
      → TornFrom 4096 (4096 * l.geometry.blocks - 4096) (g.D.Device.may_leave l.initial.device) c;
  time : LeavesOnly g.D.Device.moment g.D.Device.left_since l.initial.device l.device
      (TornFrom 4096 (4096 * l.geometry.blocks - 4096) (g.D.Device.may_leave l.initial.device));
  kept : IsAccounted {X = Unit {0}} g.D.Device l.initial.device (Ok tt) l.device;
  calls : Rises l.journal (g.D.Device.calls_made l.initial.device) (g.D.Device.calls_made l.device);
}
