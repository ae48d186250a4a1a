use Rattle.std.proofs.Common.{◌≡◌, ◌<◌, take}
use Rattle.log_codec.specs.Log.{first_log_home}
use Rattle.log_codec.specs.Chain.{newest_or}
use Rattle.log_recovery.specs.Reading.{chain_of}
use Rattle.log_opening.proofs.lengths.newest_lengths.Given as goal

abbrev pub invariant-loop-i : goal.invariant-loop-i
invariant-loop-i g l = record {
  value : l.block ≡ newest_or l.log.ring (first_log_home l.log.ring) l.found.start.position
      (chain_of (take l.i l.found.commits.items)) (first_log_home l.log.ring);
  within : l.block < l.log.blocks;
}
