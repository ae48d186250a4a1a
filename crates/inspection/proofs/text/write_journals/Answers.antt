use Rattle.inspection.specs.Text.{journal_line}
use Rattle.inspection.proofs.Writing.{this_item_more}
use Rattle.inspection.proofs.text.write_journals.Goals as goal

pub loop-journal-preserved : goal.loop-journal-preserved
loop-journal-preserved g c =
    let contents = g.W.Write.contents in
    this_item_more (journal_line c.args.table.now) (contents c.args.out.now) (contents c.loop-journal.out)
    (contents c.write_journal.new.out)
    c.args.journals.now c.loop-journal.journal-index c.journal-item.result c.loop-journal-test.true c.journal-item.is
    c.loop-journal.invariant c.in_ok-write_journal.ensures
