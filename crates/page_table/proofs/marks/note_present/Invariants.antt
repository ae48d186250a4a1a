use Rattle.std.proofs.Common.{◌-◌, ◌*◌}
use Rattle.page_table.specs.inside.Marks.{NotesMarked}
use Rattle.page_table.proofs.marks.note_present.Given as goal

-- the nodes so far are noted
abbrev pub invariant-nodes : goal.invariant-nodes
invariant-nodes l = NotesMarked l.words l.present 0 (l.node * 512) l.fn.notes l.notes

abbrev pub decreases-nodes : goal.decreases-nodes
decreases-nodes l = l.end - l.node
