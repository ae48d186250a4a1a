use Rattle.std.proofs.Common.{◌+◌, ◌-◌, ◌*◌}
use Rattle.page_table.specs.inside.Changes.{changed_bits}
use Rattle.page_table.specs.inside.Marks.{EditsMarked}
use Rattle.page_table.proofs.Searching.{SoFar}
use Rattle.page_table.proofs.marks.change_node.Given as goal

-- the entries so far have changed
abbrev pub invariant-entries : goal.invariant-entries
invariant-entries l =
    SoFar (λ place. EditsMarked (changed_bits l.change) l.present (l.node * 512) place l.fn.words l.words)
    (l.node * 512) ((l.node + 1) * 512) l.place

abbrev pub decreases-entries : goal.decreases-entries
decreases-entries l = l.end - l.place
