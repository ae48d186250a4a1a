use Rattle.std.proofs.Common.{arith}
use Rattle.page_table.proofs.Marked.{marked_within}
use Rattle.page_table.proofs.MarkedEdits.{unused_after}
use Rattle.page_table.proofs.MarkedNotes.{NotesMarked-pieces, NotesMarked-whole}
use Rattle.page_table.proofs.Searching.{done-node}
use Rattle.page_table.proofs.marks.note_present.Goals as goal

pub note_node-requires-clause-entries : goal.note_node-requires-clause-entries
note_node-requires-clause-entries c = λ i low high marked.
    marked_within c.args.words.now c.args.present.now c.requires.table c.requires.marks.marked i marked

pub note_node-requires-clause-notes : goal.note_node-requires-clause-notes
note_node-requires-clause-notes c = λ i low high marked entry read.
    let below = c.requires.notes i (omega arith)
    (marked_within c.args.words.now c.args.present.now c.requires.table c.requires.marks.marked i marked).0
    marked entry read in
    omega (arith, below, c.nodes.auto.notes)

pub nodes-preserved : goal.nodes-preserved
nodes-preserved c = done-node (NotesMarked-pieces c.args.words.now c.args.present.now) c.requires.marks
    c.nodes.invariant c.in-Some.ensures c.note_node.ensures

pub returns : goal.returns
returns c =
    NotesMarked-whole c.args.words.now c.args.present.now c.args.in_use.now c.requires.table c.requires.marks
    c.nodes.node c.args.notes.now c.nodes.notes c.nodes.invariant
    (unused_after c.args.words.now c.args.present.now c.args.in_use.now c.requires.marks c.nodes.node _
    (omega arith) c.in_default.ensures)
