use Rattle.std.proofs.Common.{◌+◌}
use Rattle.mappings.proofs.Searches.{IsCoveredTo}
use Rattle.mappings.proofs.list.covers_all.Given as goal

abbrev pub invariant-loop-mapping : goal.invariant-loop-mapping
invariant-loop-mapping l = IsCoveredTo l.list l.range.first l.next (l.from + l.mapping-index)
