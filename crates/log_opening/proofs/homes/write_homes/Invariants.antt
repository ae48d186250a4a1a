use Rattle.std.proofs.Common.{◌≡◌, Bool, take, nat_eq}
use Rattle.indexmap.specs.IndexMap.{get}
use Rattle.log_recovery.specs.Reading.{chain_of}
use Rattle.log_opening.specs.inside.Keeping.{WritesKeeping, IsSameDevice, HasHomesBut}
use Rattle.log_opening.proofs.homes.write_homes.Given as goal

abbrev pub invariant-loop-i : goal.invariant-loop-i
invariant-loop-i g l = record {
  copied : g.D.Device.is_honest l.initial.device → HasHomesBut l.log l.found.start.position
      (chain_of (take l.i l.found.commits.items)) (get nat_eq l.youngest) l.i
      (g.D.Device.seen l.initial.device) (g.D.Device.seen l.device);
  keeps : (second : Bool) → WritesKeeping g.D.Device l.log l.found.start (chain_of l.found.commits.items) second
      l.initial.device l.device;
  same : IsSameDevice g.D.Device l.initial.device l.device;
  faults : g.D.Device.faults_met l.device ≡ g.D.Device.faults_met l.initial.device;
}
