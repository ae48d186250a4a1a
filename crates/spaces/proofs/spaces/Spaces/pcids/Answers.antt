use Rattle.std.proofs.Common.{◌∙◌, sym, ap, map}
use Rattle.std.specs.FinMap as maps
use Rattle.spaces.specs.Spaces.{SpacesState}
use Rattle.spaces.specs.inside.Slots.{listed_from}
use Rattle.spaces.proofs.SlotsLemmas.{entries-spaces_of}
use Rattle.spaces.proofs.spaces.Spaces.pcids.Goals as goal

pub returns : goal.returns
returns g c =
    ap (λ slots. map (λ s. s.0) (listed_from 0 slots)) c.deref.ensures.value
    ∙ ap (map (λ s. s.0)) (sym (entries-spaces_of c.self.inside.slots.items))
    ∙ ap (λ (s : SpacesState). maps.keys s.map) c.self.view_is
