use Rattle.std.proofs.Common.{◌+◌, ◌*◌, length, ◌∙◌, sym, arith}
use Rattle.page_table.proofs.MarkedNotes.{NotesMarked-all, NotesMarked-pieces}
use Rattle.page_table.proofs.MarkedNotes.{NotesMarked-dirty, NotesMarked-clean, frame_below}
use Rattle.page_table.proofs.Searching.{SoFar-next, done-next}
use Rattle.page_table.proofs.marks.note_node.Goals as goal
use Rattle.page_table.proofs.marks.note_node.Goals.{then-dirty, else-dirty}

pub bounds-notes-frame : goal.bounds-notes-frame
bounds-notes-frame c =
    let found = c.in-Some.ensures in
    let low = found.low in
    let from = c.entries.invariant.low in
    let below = frame_below c.args.words.now c.args.present.now (c.args.node * 512)
    ((c.args.node + 1) * 512) (length c.args.notes.now) c.in-Some.at c.of_bits-entry.result c.requires.notes
    (omega arith) found.high found.here c.of_bits-entry.ensures (sym c.if-dirty.ensures) in
    omega (arith, below, c.frame.ensures, c.entries.auto.notes)

pub entries-preserved : goal.entries-preserved
entries-preserved c =
    let found = c.in-Some.ensures in
    let low = found.low in
    let from = c.entries.invariant.low in
    SoFar-next c.entries.invariant found (done-next (NotesMarked-pieces c.args.words.now c.args.present.now) from
    c.entries.invariant.done found (elim c.if-dirty.branch [
      | then-dirty w ↦ rw (w.notes-is, w.frame.ensures)
          (NotesMarked-dirty c.args.words.now c.args.present.now c.in-Some.at c.of_bits-entry.result
          c.entries.notes found.here c.of_bits-entry.ensures (sym c.dirty.ensures ∙ w.if-dirty.true) (let below =
          frame_below c.args.words.now c.args.present.now (c.args.node * 512) ((c.args.node + 1) * 512)
          (length c.args.notes.now) c.in-Some.at c.of_bits-entry.result c.requires.notes
          (omega arith) found.high found.here c.of_bits-entry.ensures (sym c.dirty.ensures ∙ w.if-dirty.true) in
          omega (arith, c.entries.auto.notes)))
      | else-dirty w ↦ rw w.notes-is (NotesMarked-clean c.args.words.now c.args.present.now c.in-Some.at
          c.of_bits-entry.result c.entries.notes c.of_bits-entry.ensures (sym c.dirty.ensures ∙ w.if-dirty.false))
    ]))

pub returns : goal.returns
returns c =
    let inv = c.entries.invariant in
    NotesMarked-all c.args.words.now c.args.present.now (c.args.node * 512) c.entries.place
    ((c.args.node + 1) * 512) c.args.notes.now c.entries.notes inv.high inv.done c.in_default.ensures
