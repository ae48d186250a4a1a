use Rattle.std.proofs.Common.{◌≡◌, ◌<◌, take}
use Rattle.log_codec.specs.Chain.{newest_or}
use Rattle.log_recovery.specs.Reading.{chain_of}
use Rattle.volume_reading.proofs.log_pages.newest_block.Given as goal

abbrev pub invariant-loop-i : goal.invariant-loop-i
invariant-loop-i g l = record {
  value : l.block ≡ newest_or l.log.ring l.home l.found.start.position
      (chain_of (take l.i l.found.commits.items)) l.home;
  within : l.block < l.log.blocks;
}
