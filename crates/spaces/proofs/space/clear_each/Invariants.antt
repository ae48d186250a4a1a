use Rattle.spaces.proofs.Cleared.{ClearsEach}
use Rattle.spaces.proofs.space.clear_each.Given as goal

abbrev pub invariant-loop-page : goal.invariant-loop-page
invariant-loop-page g l =
    (goal.iterator-loop-page g).can_next l.page-iterator × (goal.iterator-loop-page g).is_finite l.page-iterator
    × ClearsEach l.initial.table l.fn.pages l.table l.page-iterator
