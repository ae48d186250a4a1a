use Rattle.std.proofs.Common.{◌∙◌}
use Rattle.checkpoint.proofs.PagesInUse.{list_any-found}
use Rattle.checkpoint.proofs.copies.has_copy.Goals as goal

pub returns : goal.returns
returns g c =
    c.is_some.ensures
    ∙ list_any-found c.args.frames.now.copies c.args.page c.copy_of.result c.copy_of.ensures.found
    c.copy_of.ensures.none
