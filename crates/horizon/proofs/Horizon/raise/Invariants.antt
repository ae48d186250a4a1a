use Rattle.crossbeam_utils.specs.Seq.{cell_view}
use Rattle.horizon.proofs.Rises.{HasOnlyLooked}
use Rattle.horizon.proofs.Horizon.raise.Given as goal

abbrev pub invariant-loop : goal.invariant-loop
invariant-loop g l =
    (goal.iterator-loop g).can_next l.iterator' × (goal.iterator-loop g).is_finite l.iterator'
    × HasOnlyLooked l.fn.seen l.seen-inside.holder.table_id (cell_view l.seen-inside.holder)
