use Rattle.std.proofs.Common.{◌≡◌, ◌-◌, ◌^◌, ◌≤◌, ◌<◌, ℕ, length}
use Rattle.log_codec.specs.Chain.{LogEndsAt}
use Rattle.log_recovery.specs.Reading.{ReadsAlone}
use Rattle.log_opening.proofs.epoch.free_epoch.Given as goal

abbrev pub invariant-loop-epoch : goal.invariant-loop-epoch
invariant-loop-epoch g l = record {
  read : ReadsAlone g.D.Device l.initial.device l.device;
  len : length (g.D.Device.seen l.device) ≡ length (g.D.Device.seen l.initial.device);
  faults : g.D.Device.faults_met l.device ≡ g.D.Device.faults_met l.initial.device;
  later : l.last ≤ l.epoch;
  none : g.D.Device.is_honest l.initial.device → (e : ℕ) → l.last < e → e ≤ l.epoch
      → LogEndsAt l.log.sealing l.log e l.position l.number l.log.ring (g.D.Device.seen l.initial.device) → ⊥;
}

abbrev pub decreases-loop-epoch : goal.decreases-loop-epoch
decreases-loop-epoch g l = 2 ^ 64 - l.epoch
