use Rattle.std.proofs.Common.{◌≡◌, Bool, List, take, nat_eq}
use Rattle.indexmap.specs.IndexMap.{get}
use Rattle.log_codec.specs.declared.start.LogStart.{LogStart}
use Rattle.log_codec.specs.Commit.{LogDescriptor}
use Rattle.log_codec.specs.Chain.{records_position}
use Rattle.log_recovery.specs.Reading.{logged_of}
use Rattle.log_opening.specs.inside.Keeping.{AreLogged, WritesKeeping, IsSameDevice, HasRecords}
use Rattle.log_opening.proofs.homes.write_records.Given as goal

abbrev pub invariant-loop-i : goal.invariant-loop-i
invariant-loop-i g l = record {
  copied : g.D.Device.is_honest l.initial.device → HasRecords l.log
      (records_position l.commit.position (logged_of l.commit)) (take l.i l.commit.homes.items)
      (get nat_eq l.youngest) l.place
      (g.D.Device.seen l.initial.device) (g.D.Device.seen l.device);
  keeps : (s : LogStart) (chain : List LogDescriptor) (second : Bool) → AreLogged l.log s chain l.commit.homes.items
      → WritesKeeping g.D.Device l.log s chain second l.initial.device l.device;
  same : IsSameDevice g.D.Device l.initial.device l.device;
  faults : g.D.Device.faults_met l.device ≡ g.D.Device.faults_met l.initial.device;
}
