use Rattle.std.proofs.Common.{◌≡◌, subst, ◌∙◌, ap, Some, None, get_or, rules}
use Rattle.frames.specs.Frames.{FramesState, HasNoFrame, page_of}
use Rattle.frames.proofs.Listing.{no_frame_elsewhere}
use Rattle.frames.proofs.Frames.search.Goals as goal

-- the frame at the page's place has another page
pub returns-else-eq-clause-none : goal.returns-else-eq-clause-none
returns-else-eq-clause-none g c =
    subst (λ (s : FramesState). HasNoFrame s c.args.page) c.self.view_is
    (no_frame_elsewhere (record { frames = c.self.inside.frames; copies = c.self.inside.copies })
    c.self.inside.order.items c.self.invariant.in_order c.args.page c.place_of-place.result 0 c.place_of-place.ensures
    (λ has.
    let found : c.page.result ≡ Some c.args.page =
    c.page.ensures
    ∙ ap (λ n. page_of (get_or c.self.inside.frames n None)) c.get-frame.ensures
    ∙ has in
    search rules))
