use Rattle.std.proofs.Common.{◌≡◌, length}
use Rattle.spaces.specs.Changes.{with_present}
use Rattle.spaces.proofs.entry_pages.EntryPagesIterator.next.Given as goal

-- the pages that were passed over have no entry
abbrev pub invariant-loop-page : goal.invariant-loop-page
invariant-loop-page g l = with_present l.self-inside.table.now.entries l.self-inside.pages
    ≡ with_present l.initial.self-inside.table.now.entries l.initial.self-inside.pages

abbrev pub decreases-loop-page : goal.decreases-loop-page
decreases-loop-page g l = length l.self-inside.pages
