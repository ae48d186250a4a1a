use Rattle.std.proofs.Common.{sym, ap, ◌∙◌, eqb, ◌/◌}
use Rattle.std.specs.Int.{div_ceil}
use Rattle.mappings.specs.Places.{all_mapped}
use Rattle.spaces.specs.Spaces.{AddressSpace}
use Rattle.spaces.proofs.SpacesLaws.{all_mapped-empty}
use Rattle.spaces.proofs.spaces.Spaces.maps_each.Goals as goal

pub returns-in-None : goal.returns-in-None
returns-in-None g c =
    ap (λ n. eqb n 0) c.div_ceil.ensures
    ∙ sym (ap (λ (x : AddressSpace). all_mapped x.places (c.args.va / 4096) (div_ceil c.args.len 4096))
    c.in-None.ensures.missing.nothing ∙ all_mapped-empty (c.args.va / 4096) (div_ceil c.args.len 4096))
