use Rattle.mappings.proofs.Inside.{is_within-inside}
use Rattle.mappings.proofs.list.is_within.Goals as goal

pub returns-in-Some : goal.returns-in-Some
returns-in-Some c = is_within-inside c.args.list.now c.requires c.args.range.first c.args.range.count c.in-Some.mapping
    c.in-Some.ensures.found
