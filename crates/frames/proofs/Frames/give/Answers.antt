use Rattle.std.proofs.Common.{sym, ◌∙◌}
use Rattle.frames.specs.Frames.{FramesState}
use Rattle.frames.specs.inside.Order.{IsPlaceOf}
use Rattle.frames.proofs.Listing.{IsListed-without_frame}
use Rattle.frames.proofs.Frames.give.Goals as goal

pub invariant_of-self : goal.invariant_of-self
invariant_of-self g c =
    let s : FramesState = record { frames = c.self.inside.frames; copies = c.self.inside.copies } in
    let at : IsPlaceOf c.self.inside.frames c.self.inside.order.items c.unwrap-page.result c.place_of-place.result =
    c.place_of-place.ensures in
    rw (c.give.ensures, c.remove.ensures)
    (IsListed-without_frame s c.self.inside.order.items _ c.args.frame c.unwrap-page.result c.place_of-place.result
    c.self.invariant (sym c.page.ensures ∙ c.unwrap-page.ensures) at)
