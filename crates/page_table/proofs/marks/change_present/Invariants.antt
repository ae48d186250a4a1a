use Rattle.std.proofs.Common.{◌-◌, ◌*◌}
use Rattle.page_table.specs.inside.Changes.{changed_bits}
use Rattle.page_table.specs.inside.Marks.{EditsMarked}
use Rattle.page_table.proofs.marks.change_present.Given as goal

-- the nodes so far have changed
abbrev pub invariant-nodes : goal.invariant-nodes
invariant-nodes l = EditsMarked (changed_bits l.change) l.present 0 (l.node * 512) l.fn.words l.words

abbrev pub decreases-nodes : goal.decreases-nodes
decreases-nodes l = l.end - l.node
