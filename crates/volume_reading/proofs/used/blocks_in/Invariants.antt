use Rattle.std.proofs.Common.{◌≡◌, take}
use Rattle.log_codec.specs.Chain.{chain_blocks}
use Rattle.log_recovery.specs.Reading.{chain_of}
use Rattle.volume_reading.proofs.used.blocks_in.Given as goal

abbrev pub invariant-loop-i : goal.invariant-loop-i
invariant-loop-i g l = l.used ≡ chain_blocks (chain_of (take l.i l.found.commits.items))
