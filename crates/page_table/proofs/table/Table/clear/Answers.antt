use Rattle.page_table.proofs.Entries.{get-outside_range}
use Rattle.page_table.proofs.table.Table.clear.Goals as goal

pub returns : goal.returns
returns g c = c.change.ensures _
    (λ page. get-outside_range c.args.self.now.entries c.args.range.start c.args.range.end page)
