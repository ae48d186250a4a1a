use Rattle.std.proofs.Common.{arith, sym, ◌∙◌, ap, get_or, None, []}
use Rattle.std.proofs.lemmas.List.{get_or_read}
use Rattle.slab.specs.Slab.{get}
use Rattle.frames.specs.Frames.{bytes_of}
use Rattle.frames.proofs.PageLemmas.{in_use_within, bytes_of-frames_by}
use Rattle.frames.proofs.pages.Pages.bytes.Goals as goal

pub index-requires : goal.index-requires
index-requires g c =
    let h =
    in_use_within (get c.self.inside.pages) c.self.inside.bytes.items c.args.number (rw c.self.view_is c.requires) in
    omega (arith, c.self.inside.bytes.ok.0)

pub returns : goal.returns
returns g c =
    let h =
    in_use_within (get c.self.inside.pages) c.self.inside.bytes.items c.args.number (rw c.self.view_is c.requires) in
    get_or_read c.self.inside.bytes.items _ _ h c.index.ensures []
    ∙ sym (bytes_of-frames_by (get c.self.inside.pages) c.self.inside.bytes.items c.args.number
    (rw c.self.view_is c.requires))
    ∙ ap (λ s. bytes_of (get_or s c.args.number None)) c.self.view_is
