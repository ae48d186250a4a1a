use Rattle.std.proofs.Common.{◌≡◌, ◌+◌, ◌++◌, Contains}
use Rattle.page_table.specs.Table.{dirty_in}
use Rattle.spaces.specs.Spaces.{space_at}
use Rattle.checkpoint.specs.inside.Notes.{AreNoted}
use Rattle.checkpoint.proofs.notes.note_range.Given as goal

abbrev pub invariant-loop-page : goal.invariant-loop-page
invariant-loop-page g l = record {
  can : (goal.iterator-loop-page g).can_next l.page-iterator;
  finite : (goal.iterator-loop-page g).is_finite l.page-iterator;
  listed : l.yielded ++ l.page-iterator
      ≡ dirty_in (space_at l.spaces.map l.pcid).entries l.fn.range.first (l.fn.range.first + l.fn.range.count);
  noted : AreNoted l.spaces.map (λ q p. (q ≡ l.pcid) × Contains l.yielded p) l.initial.notes l.notes;
}
