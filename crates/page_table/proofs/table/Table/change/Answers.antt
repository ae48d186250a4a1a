use Rattle.page_table.specs.inside.Changes.{ChangesRange}
use Rattle.page_table.proofs.Tables.{table_of-changed, table_of-written, marked_written}
use Rattle.page_table.proofs.table.Table.change.Goals as goal

pub returns : goal.returns
returns g c =
    let range = c.args.range.now in
    let edits = c.change_pages.ensures.edits in
    table_of-written c.self.inside.words _ _ c.args.self.now (ChangesRange c.args.change range.start range.end)
    edits.size c.deref_mut.ensures.value c.self.view_is
    (table_of-changed c.args.change range.start range.end c.deref_mut.result.now c.change_pages.new.words edits)

-- and its marks
pub invariant_of-self : goal.invariant_of-self
invariant_of-self g c =
    marked_written c.self.inside.words c.self.inside.present c.self.inside.in_use
    (c.deref_mut.ensures.value, c.change_pages.auto.words) (c.deref_mut-2.ensures.value, c.change_pages.auto.present)
    (c.deref_mut-3.ensures.value, c.change_pages.auto.in_use) c.change_pages.ensures.edits.table
    c.change_pages.ensures.marks
