use Rattle.std.proofs.Common.{◌≡◌, ◌*◌, length, take}
use Rattle.log_codec.specs.Log.{ring_bytes}
use Rattle.log_recovery.specs.Reading.{ReadsAlone}
use Rattle.log_recovery.proofs.commit.read_head.Given as goal

abbrev pub invariant-loop-i : goal.invariant-loop-i
invariant-loop-i g l = record {
  read : ReadsAlone g.D.Device l.initial.device l.device;
  len : length (g.D.Device.seen l.device) ≡ length (g.D.Device.seen l.initial.device);
  faults : g.D.Device.faults_met l.device ≡ g.D.Device.faults_met l.initial.device;
  head : g.D.Device.is_honest l.initial.device
      → l.head.items ≡ ring_bytes l.log.ring (g.D.Device.seen l.initial.device) l.position l.i;
  size : length l.head.items ≡ 4096 * l.i;
  begins : take 4096 l.head.items ≡ l.first;
}
