use Rattle.std.proofs.Common.{◌≡◌, ◌+◌, ◌<◌, ◌++◌, map, length}
use Rattle.spaces.specs.Changes.{entries_in}
use Rattle.spaces.specs.inside.Slots.{listed_from}
use Rattle.spaces.proofs.entries_of.EntriesOfIterator.next.Given as goal

-- the spaces that were passed have no such page left
abbrev pub invariant-loop-page : goal.invariant-loop-page
invariant-loop-page g l = record {
  small : l.self-inside.pcid + length l.self-inside.later.now < 4096;
  same_entries : map (λ page. (l.self-inside.pcid, page)) l.self-inside.here
      ++ entries_in (listed_from (l.self-inside.pcid + 1) l.self-inside.later.now) l.self-inside.page
      ≡ l.fn.self;
}

abbrev pub decreases-loop-page : goal.decreases-loop-page
decreases-loop-page g l = length l.self-inside.later.now
