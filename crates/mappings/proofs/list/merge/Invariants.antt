use Rattle.mappings.proofs.Merging.{MergesTo}
use Rattle.mappings.proofs.list.merge.Given as goal

abbrev pub invariant-loop-index : goal.invariant-loop-index
invariant-loop-index l = MergesTo l.fn.list l.list l.last l.kept l.index
