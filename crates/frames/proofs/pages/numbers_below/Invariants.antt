use Rattle.frames.proofs.PageLemmas.{GivesBack}
use Rattle.frames.proofs.pages.numbers_below.Given as goal

abbrev pub invariant-loop-number : goal.invariant-loop-number
invariant-loop-number g l = GivesBack l.pages l.count l.number
