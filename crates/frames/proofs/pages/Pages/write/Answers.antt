use Rattle.std.proofs.Common.{◌≡◌, None, [], get_or, set, ◌∙◌, ap, arith}
use Rattle.std.proofs.lemmas.List.{get_or_read}
use Rattle.slab.specs.Slab.{get}
use Rattle.frames.specs.Frames.{overwrite, overwrite_frame}
use Rattle.frames.specs.inside.Pages.{frames_by}
use Rattle.frames.proofs.PageLemmas.{in_use_within, frames_by-overwrite, IsKept-set, overwrite-parts}
use Rattle.frames.proofs.pages.Pages.write.Goals as goal

pub index_mut-page-requires : goal.index_mut-page-requires
index_mut-page-requires g c =
    let h = in_use_within (get c.self.inside.pages) c.self.inside.bytes.items c.args.number
    (rw c.self.view_is c.requires.in_use) in
    omega (arith, c.self.inside.bytes.ok.0)

pub invariant_of-self : goal.invariant_of-self
invariant_of-self g c = IsKept-set c.self.invariant c.args.number _

pub returns : goal.returns
returns g c =
    let page_at = get c.self.inside.pages in
    let pages = c.self.inside.bytes.items in
    let within = in_use_within page_at pages c.args.number (rw c.self.view_is c.requires.in_use) in
    let page : c.index_mut-page.result.now ≡ get_or pages c.args.number [] =
    get_or_read pages _ _ within c.index_mut-page.ensures.value [] in
    ap (λ b. frames_by page_at (set pages c.args.number b))
    (overwrite-parts _ c.args.at c.args.bytes.now _ c.copy_from_slice.ensures.after
    ∙ ap (λ b. overwrite b c.args.at c.args.bytes.now) page)
    ∙ frames_by-overwrite page_at pages c.args.number c.args.at c.args.bytes.now within
    ∙ ap (λ s. set s c.args.number (overwrite_frame (get_or s c.args.number None) c.args.at c.args.bytes.now))
    c.self.view_is
