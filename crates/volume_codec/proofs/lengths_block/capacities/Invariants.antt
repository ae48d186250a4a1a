use Rattle.std.proofs.Common.{◌≡◌, take}
use Rattle.volume_codec.specs.Super.{capacities_in}
use Rattle.volume_codec.proofs.lengths_block.capacities.Given as goal

abbrev pub invariant-loop-file : goal.invariant-loop-file
invariant-loop-file g l = l.capacities.items ≡ take l.file (capacities_in l.table)
