use Rattle.session.specs.Lines.{HasNoFeed}
use Rattle.session.proofs.serving.in_one_line.Given as goal

abbrev pub invariant-loop-byte : goal.invariant-loop-byte
invariant-loop-byte g l = HasNoFeed l.line.items
