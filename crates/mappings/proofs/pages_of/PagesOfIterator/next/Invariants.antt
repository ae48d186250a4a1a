use Rattle.std.proofs.Common.{◌≡◌, length}
use Rattle.mappings.specs.inside.Listed.{pages_listed, IsOrdered}
use Rattle.mappings.proofs.pages_of.PagesOfIterator.next.Given as goal

-- the mappings that were passed over have no such page
abbrev pub invariant-loop-mapping : goal.invariant-loop-mapping
invariant-loop-mapping l = record {
  ordered : IsOrdered 0 l.self-inside.rest.now;
  same_pages : pages_listed l.self-inside.rest.now l.self-inside.file l.self-inside.page
      ≡ pages_listed l.initial.self-inside.rest.now l.initial.self-inside.file l.initial.self-inside.page;
}

abbrev pub decreases-loop-mapping : goal.decreases-loop-mapping
decreases-loop-mapping l = length l.self-inside.rest.now
