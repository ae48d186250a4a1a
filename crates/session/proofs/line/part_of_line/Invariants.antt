use Rattle.std.proofs.Common.{take}
use Rattle.session.specs.Lines.{HasNoFeed}
use Rattle.session.proofs.line.part_of_line.Given as goal

abbrev pub invariant-loop-i : goal.invariant-loop-i
invariant-loop-i l = HasNoFeed (take l.i l.bytes)
