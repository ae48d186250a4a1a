use Rattle.std.proofs.Common.{◌≡◌, Some, subst, sym, ◌∙◌}
use Rattle.frames.specs.Frames.{FramesState, HasNoCopy, frame_at, page_of}
use Rattle.frames.proofs.Listing.{IsListed-copied}
use Rattle.frames.proofs.Frames.copy_out.Goals as goal

pub invariant_of-self : goal.invariant_of-self
invariant_of-self g c =
    let s : FramesState = record { frames = c.self.inside.frames; copies = c.self.inside.copies } in
    let has : page_of (frame_at s c.args.frame) ≡ Some c.unwrap-page.result =
    sym c.page.ensures
    ∙ c.unwrap-page.ensures in
    let none : HasNoCopy s c.unwrap-page.result =
    subst (λ (s : FramesState).
    page_of (frame_at s c.args.frame) ≡ Some c.unwrap-page.result → HasNoCopy s c.unwrap-page.result)
    (sym c.self.view_is) (c.requires.uncopied c.unwrap-page.result) has in
    IsListed-copied s c.self.inside.order.items _ c.args.frame c.unwrap-page.result c.bytes.result.now c.insert.result
    c.insert.new.self c.self.invariant has c.bytes.ensures none c.insert.ensures.page c.insert.ensures.none_free
