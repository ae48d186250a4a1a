use Rattle.std.proofs.Common.{◌∙◌}
use Rattle.machine.proofs.code.Parts.{pages-in_file}
use Rattle.machine.proofs.paging.pages_in_file.Goals as goal

pub returns : goal.returns
returns g c = c.pages.ensures ∙ pages-in_file c.args.table.now.files c.args.file c.requires
