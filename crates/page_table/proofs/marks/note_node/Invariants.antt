use Rattle.std.proofs.Common.{◌+◌, ◌-◌, ◌*◌}
use Rattle.page_table.specs.inside.Marks.{NotesMarked}
use Rattle.page_table.proofs.Searching.{SoFar}
use Rattle.page_table.proofs.marks.note_node.Given as goal

-- the entries so far are noted
abbrev pub invariant-entries : goal.invariant-entries
invariant-entries l =
    SoFar (λ place. NotesMarked l.words l.present (l.node * 512) place l.fn.notes l.notes)
    (l.node * 512) ((l.node + 1) * 512) l.place

abbrev pub decreases-entries : goal.decreases-entries
decreases-entries l = l.end - l.place
