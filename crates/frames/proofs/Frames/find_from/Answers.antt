use Rattle.std.proofs.Common.{sym, subst, ◌∙◌, ap, None, get_or}
use Rattle.frames.specs.Frames.{FramesState, HasNoneFrom, page_of}
use Rattle.frames.proofs.Listing.{has_none_from}
use Rattle.frames.proofs.Frames.find_from.Goals as goal

-- the frame at the page's place has a page of another file
pub returns-in_default-clause-none : goal.returns-in_default-clause-none
returns-in_default-clause-none g c =
    subst (λ (s : FramesState). HasNoneFrom s c.args.page) c.self.view_is
    (has_none_from (record { frames = c.self.inside.frames; copies = c.self.inside.copies }) c.self.inside.order.items
    c.self.invariant.in_order c.args.page c.place_of-place.result c.place_of-place.ensures (λ within. (
      c.in-Some.owner,
      ap (λ n. page_of (get_or c.self.inside.frames n None)) (sym c.get-frame.ensures)
          ∙ sym c.page.ensures
          ∙ c.in-Some.is,
      c.if-owner-page.false,
    )))
