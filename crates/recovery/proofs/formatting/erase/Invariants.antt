use Rattle.std.proofs.Common.{◌≡◌, ◌⊎◌, ◌≤◌, ◌+◌, ◌-◌, ◌/◌, ◌%◌, ℕ, List, Ok}
use Rattle.device.specs.Device.{Torn, TornFrom, LeavesOnly}
use Rattle.recovery.specs.Counts.{Rises, IsAccounted}
use Rattle.recovery.specs.inside.Erasing.{IsErased}
use Rattle.recovery.proofs.formatting.erase.Given as goal

abbrev pub invariant-loop-at : goal.invariant-loop-at
invariant-loop-at g l = record {
  low : l.from ≤ l.at;
  high : l.at ≤ l.to;
  erased : g.D.Device.is_honest l.initial.device
      → IsErased l.from l.at (g.D.Device.seen l.initial.device) (g.D.Device.seen l.device);
  torn : g.D.Device.is_honest l.initial.device
      → Torn l.from (l.at - l.from) (g.D.Device.seen l.initial.device) (g.D.Device.seen l.device);
  left : (c : List ℕ) → g.D.Device.may_leave l.device c
      → TornFrom l.from (l.to - l.from) (g.D.Device.may_leave l.initial.device) c;
  time : LeavesOnly g.D.Device.moment g.D.Device.left_since l.initial.device l.device
      (TornFrom l.from (l.to - l.from) (g.D.Device.may_leave l.initial.device));
  whole : (l.at ≡ l.to) ⊎ ((l.at - l.from) % 32768 ≡ 0);
  calls : Rises ((l.at - l.from + 32767) / 32768) (g.D.Device.calls_made l.initial.device)
      (g.D.Device.calls_made l.device);
  kept : IsAccounted {X = Unit {0}} g.D.Device l.initial.device (Ok tt) l.device;
}

abbrev pub decreases-loop-at : goal.decreases-loop-at
decreases-loop-at g l = l.to - l.at
