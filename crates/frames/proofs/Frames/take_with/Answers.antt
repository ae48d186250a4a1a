use Rattle.std.proofs.Common.{◌≡◌, true, is_some, subst, sym, ap, ◌∙◌, arith}
use Rattle.frames.specs.Frames.{FramesState, HasNoFrame, has_free}
use Rattle.frames.specs.inside.Order.{IsPlaceOf}
use Rattle.frames.proofs.WholePages.{IsPage-array}
use Rattle.frames.proofs.Listing.{IsListed-with_page, room_for_one}
use Rattle.frames.proofs.Frames.take_with.Goals as goal

pub insert-requires-2-clause-room : goal.insert-requires-2-clause-room
insert-requires-2-clause-room g c =
    let s : FramesState = record { frames = c.self.inside.frames; copies = c.self.inside.copies } in
    let free : has_free c.self.inside.frames ≡ true = sym c.insert.ensures.free ∙ ap is_some c.in-Some.is in
    omega (arith, room_for_one s _ _ c.self.invariant free)

pub invariant_of-self-2 : goal.invariant_of-self-2
invariant_of-self-2 g c =
    let s : FramesState = record { frames = c.self.inside.frames; copies = c.self.inside.copies } in
    let at : IsPlaceOf c.self.inside.frames c.self.inside.order.items c.args.page c.place_of-place.result =
    c.place_of-place.ensures in
    let none : HasNoFrame s c.args.page =
    subst (λ (s : FramesState). HasNoFrame s c.args.page) (sym c.self.view_is) c.requires in
    rw (c.in-Some.ensures.page, c.insert-2.ensures)
    (IsListed-with_page s c.self.inside.order.items _ c.in-Some.frame c.args.page
    c.args.bytes.now c.place_of-place.result c.self.invariant c.in-Some.ensures.was_free none
    (IsPage-array c.args.bytes.now c.told-bytes c.fits-bytes) at)
