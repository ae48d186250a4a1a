use Rattle.std.proofs.Common.{ap, ◌∙◌}
use Rattle.std.specs.List.{list_any}
use Rattle.checkpoint.specs.Checkpoint.{same_page}
use Rattle.checkpoint.proofs.Searches.{is_ok-searched}
use Rattle.checkpoint.proofs.checkpoint.Checkpoint.is_frozen.Goals as goal

pub returns : goal.returns
returns g c =
    c.is_ok.ensures.value
    ∙ is_ok-searched c.frozen.result.now c.args.page c.binary_search.result c.frozen.ensures.rising
    c.binary_search.ensures.bound c.binary_search.ensures.position
    ∙ ap (list_any (same_page c.args.page)) c.frozen.ensures.frozen
