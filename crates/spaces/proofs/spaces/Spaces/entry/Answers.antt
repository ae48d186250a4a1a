use Rattle.std.proofs.Common.{sym, ap, ◌∙◌}
use Rattle.std.specs.FinMap as maps
use Rattle.spaces.specs.Spaces.{AddressSpace}
use Rattle.spaces.proofs.SpacesLaws.{get-empty_entries}
use Rattle.spaces.proofs.spaces.Spaces.entry.Goals as goal

pub returns-in-None-clause-entry : goal.returns-in-None-clause-entry
returns-in-None-clause-entry g c =
    c.absent.ensures
    ∙ sym (ap (λ (x : AddressSpace). maps.get x.entries c.args.page) c.in-None.ensures.missing.nothing
    ∙ get-empty_entries c.args.page)
