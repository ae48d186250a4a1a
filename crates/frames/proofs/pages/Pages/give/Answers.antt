use Rattle.std.proofs.Common.{set, None, ◌∙◌, ap}
use Rattle.slab.specs.Slab.{get}
use Rattle.frames.proofs.PageLemmas.{in_use_page, in_use_within, frames_by-give, IsKept-give}
use Rattle.frames.proofs.pages.Pages.give.Goals as goal

pub remove-requires : goal.remove-requires
remove-requires g c =
    in_use_page (get c.self.inside.pages) c.self.inside.bytes.items c.args.number (rw c.self.view_is c.requires)

pub invariant_of-self : goal.invariant_of-self
invariant_of-self g c =
    IsKept-give c.self.invariant c.args.number None
    (in_use_within (get c.self.inside.pages) c.self.inside.bytes.items c.args.number (rw c.self.view_is c.requires))
    c.remove.ensures.updates c.remove.ensures.capacity

pub returns : goal.returns
returns g c =
    frames_by-give (get c.self.inside.pages) (get c.remove.new.self) c.self.inside.bytes.items
    c.args.number c.remove.ensures.updates.others c.remove.ensures.updates.changed
    ∙ ap (λ s. set s c.args.number None) c.self.view_is
