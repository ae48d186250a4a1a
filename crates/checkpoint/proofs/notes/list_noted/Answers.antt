use Rattle.std.proofs.Common.{◌≡◌, ◌<◌, length, ap, ◌∙◌, arith}
use Rattle.checkpoint.specs.inside.Notes.{noted_at}
use Rattle.checkpoint.proofs.Gathering.{in_turn, in_turn-within, AreNotedPages-in_order, AreNotedPages-sorted}
use Rattle.checkpoint.proofs.notes.list_noted.Goals as goal

pub returns-then-len-clause-listed : goal.returns-then-len-clause-listed
returns-then-len-clause-listed g c =
    let all : c.loop-frame.frame ≡ length c.args.frames.now.frames =
    omega (arith, c.loop-frame-test.false, c.count-frame-end.ensures.count, c.loop-frame.auto.frame-end) in
    AreNotedPages-sorted c.args.frames.now c.args.notes.now c.loop-frame.pages.items
    c.sort_unstable.new.self.items c.count-frame-end.ensures.are
    (c.loop-frame.invariant.listed ∙ ap (noted_at c.args.frames.now c.args.notes.now (λ frame. frame)) all)
    c.sort_unstable.ensures.permutation c.sort_unstable.ensures.sorted

pub list_page-requires-in-loop-place-clause-within : goal.list_page-requires-in-loop-place-clause-within
list_page-requires-in-loop-place-clause-within g c =
    let order = c.in_order-order.result.now.items in
    let within : c.loop-place.place < length order =
    omega (arith, c.loop-place-test.true, c.len-place-end.ensures.count, c.loop-place.auto.place-end) in
    omega (
      arith,
      in_turn-within c.args.frames.now order c.loop-place.place c.in_order-order.ensures.order within,
      c.get.ensures,
      c.requires.sized,
    )

pub returns-clause-listed : goal.returns-clause-listed
returns-clause-listed g c =
    let order = c.in_order-order.result.now.items in
    let all : c.loop-place.place ≡ length order =
    omega (arith, c.loop-place-test.false, c.len-place-end.ensures.count, c.loop-place.auto.place-end) in
    AreNotedPages-in_order c.args.frames.now c.args.notes.now order c.loop-place.pages.items
    c.in_order-order.ensures.order
    (c.loop-place.invariant.listed ∙ ap (noted_at c.args.frames.now c.args.notes.now (in_turn order)) all)
