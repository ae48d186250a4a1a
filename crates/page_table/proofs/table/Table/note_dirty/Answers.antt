use Rattle.std.proofs.Common.{length}
use Rattle.page_table.proofs.MarkedNotes.{AreBelow-entries, noted_entries, read_as}
use Rattle.page_table.proofs.table.Table.note_dirty.Goals as goal

pub note_present-requires-clause-notes : goal.note_present-requires-clause-notes
note_present-requires-clause-notes g c =
    rw (c.deref.ensures.value, c.deref-2.ensures.value)
    (AreBelow-entries c.self.inside.words.items c.self.inside.present.items c.self.inside.in_use.items c.args.self.now
    c.self.invariant.table c.self.invariant.marks c.self.view_is (length c.args.notes.now) c.requires 0
    (length c.self.inside.words.items))

pub returns-clause-noted : goal.returns-clause-noted
returns-clause-noted g c =
    noted_entries c.self.inside.words.items c.self.inside.present.items c.self.inside.in_use.items c.args.self.now
    c.self.invariant.table c.self.invariant.marks c.self.view_is c.args.notes.now c.note_present.new.notes
    (read_as c.deref.result.now c.self.inside.words.items c.deref-2.result.now c.self.inside.present.items
    c.args.notes.now c.note_present.new.notes c.deref.ensures.value c.deref-2.ensures.value c.note_present.ensures)
