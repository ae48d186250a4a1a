use Rattle.std.proofs.Common.{rules, ◌≡◌, true, false}
use Rattle.mappings.specs.Places.{same_rights}
use Rattle.mappings.proofs.Widening.{around-same, around-other}
use Rattle.mappings.proofs.list.pages_around.Goals as goal

pub returns-in-Some : goal.returns-in-Some
returns-in-Some c =
    let same : same_rights c.in-Some.mapping.place.rights c.args.rights ≡ true = search rules in
    around-same c.args.list.now c.args.page c.args.rights c.in-Some.mapping c.requires c.in-Some.ensures.found same

pub returns-in_default : goal.returns-in_default
returns-in_default c =
    let other : same_rights c.in-Some.mapping.place.rights c.args.rights ≡ false = search rules in
    around-other c.args.list.now c.args.page c.args.rights c.in-Some.mapping c.ranges.page.fits c.requires
    c.in-Some.ensures.found other
