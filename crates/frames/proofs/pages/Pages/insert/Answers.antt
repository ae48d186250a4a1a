use Rattle.std.proofs.Common.{◌<◌, [], None, Some, length, get_or, sym, ap, ◌∙◌, arith}
use Rattle.std.proofs.lemmas.Option.{slice_get-get_or}
use Rattle.slab.specs.Slab.{get}
use Rattle.frames.specs.Frames.{has_free}
use Rattle.frames.specs.inside.Pages.{frame_of, frames_by}
use Rattle.frames.proofs.PageLemmas.{length-frames_by, get_or-frames_by, frames_by-update}
use Rattle.frames.proofs.PageLemmas.{has_free-frames_by, none_free-frames_by, all_in_use, vacant_within}
use Rattle.frames.proofs.pages.Pages.insert.Goals.{After-insert_reserved-number}
use Rattle.frames.proofs.pages.Pages.insert.Goals as goal

pub returns-then-len-capacity-clause-free : goal.returns-then-len-capacity-clause-free
returns-then-len-capacity-clause-free g c =
    sym (ap has_free (sym c.self.view_is) ∙ none_free-frames_by (get c.self.inside.pages) c.self.inside.bytes.items
    (λ k h. all_in_use c.self.inside.pages.slots c.self.inside.pages.capacity (omega (
      arith,
      c.capacity.ensures.slots,
      c.capacity.ensures.value,
    )) (sym c.len.ensures ∙ c.if-len-capacity.true ∙ c.capacity.ensures.value) k
    (omega (arith, c.self.invariant.room))))

-- the number that was vacant has a page
within : (g : _) (c : After-insert_reserved-number g)
    → c.insert_reserved-number.result < length c.self.inside.bytes.items
within g c =
    let number = c.insert_reserved-number.result in
    let below : number < c.self.inside.pages.capacity =
    omega (arith, c.insert_reserved-number.ensures.key_in_range, c.insert_reserved-number.ensures.capacity) in
    vacant_within c.self.invariant number below c.insert_reserved-number.ensures.was_vacant

pub returns-clause-was_free : goal.returns-clause-was_free
returns-clause-was_free g c =
    let page_at = get c.self.inside.pages in
    let pages = c.self.inside.bytes.items in
    let number = c.insert_reserved-number.result in
    let there = within g (goal.at.returns-clause-was_free g c).After-insert_reserved-number in
    rw (← c.self.view_is)
    (slice_get-get_or (frames_by page_at pages) number None (omega (arith, length-frames_by page_at pages))
    ∙ ap (λ f. Some f) (get_or-frames_by page_at pages number there
    ∙ ap (λ o. frame_of o (get_or pages number [])) c.insert_reserved-number.ensures.was_vacant))

pub returns-clause-page : goal.returns-clause-page
returns-clause-page g c =
    let updates = c.insert_reserved-number.ensures.updates in
    frames_by-update (get c.self.inside.pages) (get c.insert_reserved-number.new.self)
    c.self.inside.bytes.items c.insert_reserved-number.result c.args.bytes.now updates.others
    ∙ rw (updates.changed, c.self.view_is)

pub returns-clause-free : goal.returns-clause-free
returns-clause-free g c =
    let there = within g (goal.at.returns-clause-free g c).After-insert_reserved-number in
    sym (ap has_free (sym c.self.view_is) ∙ has_free-frames_by (get c.self.inside.pages) c.self.inside.bytes.items
    c.insert_reserved-number.result there c.insert_reserved-number.ensures.was_vacant)
