use Rattle.machine.proofs.Names.{◌≡◌, take}
use Rattle.machine.proofs.booting.lengths_of.Given as goal

abbrev pub invariant-loop-file : goal.invariant-loop-file
invariant-loop-file g l = l.lengths.items ≡ take l.file l.volume.lengths
