use Rattle.page_table.proofs.Masks.{compared}
use Rattle.page_table.proofs.lanes.dirty_lanes.Goals as goal

pub returns : goal.returns
returns c = compared c.args.entries c.fits-entries.0
