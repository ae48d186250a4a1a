use Rattle.std.proofs.Common.{sym, ap, ◌∙◌}
use Rattle.mappings.specs.Places.{any_mapped}
use Rattle.spaces.specs.Spaces.{AddressSpace}
use Rattle.spaces.proofs.SpacesLaws.{any_mapped-empty}
use Rattle.spaces.proofs.spaces.Spaces.maps_some.Goals as goal

pub returns-in-None : goal.returns-in-None
returns-in-None g c =
    sym (ap (λ (x : AddressSpace). any_mapped x.places c.args.range.first c.args.range.count)
    c.in-None.ensures.missing.nothing ∙ any_mapped-empty c.args.range.first c.args.range.count)
