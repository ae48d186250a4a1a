use Rattle.page_table.proofs.Entries.{get-range_read_only}
use Rattle.page_table.proofs.table.Table.make_read_only.Goals as goal

pub returns : goal.returns
returns g c = c.change.ensures _
    (λ page. get-range_read_only c.args.self.now.entries c.args.range.start c.args.range.end page)
