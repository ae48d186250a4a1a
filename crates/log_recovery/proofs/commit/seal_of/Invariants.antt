use Rattle.std.proofs.Common.{◌≡◌, ◌+◌, length}
use Rattle.log_codec.specs.Log.{ring_bytes}
use Rattle.log_codec.specs.Seal.{HasTakenCommit}
use Rattle.log_recovery.specs.Reading.{ReadsAlone, logged_of}
use Rattle.log_recovery.proofs.commit.seal_of.Given as goal

abbrev pub invariant-loop-i : goal.invariant-loop-i
invariant-loop-i g l = record {
  read : ReadsAlone g.D.Device l.initial.device l.device;
  len : length (g.D.Device.seen l.device) ≡ length (g.D.Device.seen l.initial.device);
  faults : g.D.Device.faults_met l.device ≡ g.D.Device.faults_met l.initial.device;
  digest : g.D.Device.is_honest l.initial.device → HasTakenCommit l.digest l.key l.epoch (logged_of l.commit)
      (ring_bytes l.log.ring (g.D.Device.seen l.initial.device) (l.commit.position + l.commit.head) l.i);
}
