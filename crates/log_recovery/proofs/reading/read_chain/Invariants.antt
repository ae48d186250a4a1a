use Rattle.std.proofs.Common.{◌≡◌, ◌+◌, length}
use Rattle.log_codec.specs.Chain.{chain_end, chain_blocks}
use Rattle.log_recovery.specs.Reading.{ReadsAlone, chain_of, ArePlaced}
use Rattle.log_recovery.proofs.Chained.{ReadsOn}
use Rattle.log_recovery.proofs.reading.read_chain.Given as goal

abbrev pub invariant-loop-commits : goal.invariant-loop-commits
invariant-loop-commits g l = record {
  read : ReadsAlone g.D.Device l.initial.device l.device;
  len : length (g.D.Device.seen l.device) ≡ length (g.D.Device.seen l.initial.device);
  faults : g.D.Device.faults_met l.device ≡ g.D.Device.faults_met l.initial.device;
  position : l.position ≡ chain_end l.start.position (chain_of l.commits.items);
  number : l.number ≡ l.start.number + length l.commits.items;
  room : l.position + l.left ≡ l.start.position + l.log.ring;
  blocks : chain_blocks (chain_of l.commits.items) + l.left ≡ l.log.ring;
  placed : ArePlaced l.log l.start.position l.commits.items;
  on : g.D.Device.is_honest l.initial.device → ReadsOn l.log l.start.epoch l.start.position l.start.number
      (chain_of l.commits.items) l.position l.number l.left (g.D.Device.seen l.initial.device);
}

abbrev pub decreases-loop-commits : goal.decreases-loop-commits
decreases-loop-commits g l = l.left
