use Rattle.std.proofs.Common.{sym, ap, ◌∙◌}
use Rattle.std.specs.FinMap as maps
use Rattle.spaces.specs.Spaces.{AddressSpace}
use Rattle.spaces.proofs.SpacesLaws.{get-empty_places}
use Rattle.spaces.proofs.spaces.Spaces.place.Goals as goal

pub returns-in-None : goal.returns-in-None
returns-in-None g c = sym (ap (λ (x : AddressSpace). maps.get x.places c.args.page) c.in-None.ensures.missing.nothing
    ∙ get-empty_places c.args.page)
