use Rattle.std.proofs.Common.{◌≤◌, ◌<◌, ◌-◌}
use Rattle.page_table.specs.inside.Changes.{changed_bits}
use Rattle.page_table.specs.inside.Nodes.{EditsPages}
use Rattle.page_table.specs.inside.Marks.{HasMarks}
use Rattle.page_table.proofs.leaves.change_pages.Given as goal

-- the pages so far have changed
abbrev pub invariant-pages : goal.invariant-pages
invariant-pages l = record {
  low : l.fn.range.start ≤ l.start;
  high : l.fn.range.start < l.start → l.start ≤ l.end;
  done : EditsPages (changed_bits l.change) l.fn.range.start l.start l.fn.words l.words;
  marks : HasMarks l.words l.present l.in_use;
}

abbrev pub decreases-pages : goal.decreases-pages
decreases-pages l = l.end - l.start
