use Rattle.std.proofs.Common.{◌≡◌, sym}
use Rattle.page_table.specs.Table.{frames_protected}
use Rattle.page_table.proofs.PageEdits.{Keeps-protected}
use Rattle.page_table.proofs.Tables.{table_of-protected, table_of-written, written_over}
use Rattle.page_table.proofs.table.Table.protect_frames.Goals as goal

pub returns : goal.returns
returns g c =
    let old = c.deref_mut.result.now in
    let new = c.change_present.new.words in
    let edits = c.change_present.ensures.edits in
    table_of-written c.self.inside.words old new c.args.self.now
    (λ t now. now ≡ record t { entries = frames_protected t.entries c.args.marked.now })
    edits.size c.deref_mut.ensures.value c.self.view_is (table_of-protected c.args.marked old new edits)

-- and its marks
pub invariant_of-self : goal.invariant_of-self
invariant_of-self g c =
    let words = written_over c.self.inside.words c.deref_mut.result.now c.change_present.new.words
    c.change_present.auto.words c.deref_mut.ensures.value in
    rw (words, sym c.deref.ensures.value, sym c.deref-2.ensures.value)
    (record { table = c.change_present.ensures.edits.table; marks = c.change_present.ensures.marks })

pub change_present-requires-clause-kept : goal.change_present-requires-clause-kept
change_present-requires-clause-kept g c = Keeps-protected c.args.marked
