use Rattle.volume_codec.proofs.Lengths.{AreFirst}
use Rattle.volume_codec.proofs.lengths_block.are_within.Given as goal

abbrev pub invariant-loop-file : goal.invariant-loop-file
invariant-loop-file g l = AreFirst l.table.files l.lengths l.file
