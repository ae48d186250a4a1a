use Rattle.std.proofs.Common.{◌≡◌, ℕ, ◌<◌, false, List, length, get_or, inl, inr, ap, ◌∙◌, sym, subst, arith, refl}
use Rattle.std.specs.List.{Contains}
use Rattle.std.proofs.lemmas.Bool.{cases_eq, both_ways}
use Rattle.std.proofs.lemmas.List.{get_or_default}
use Rattle.journal.specs.inside.Queued.{QueuedWriteOut}
use Rattle.journal.specs.WriteOuts.{HasBlock}
use Rattle.journal.proofs.Rooms.{found_block, no_block}
use Rattle.journal.proofs.write_outs.WriteOuts.has_block.Goals as goal

pub returns-then-has_block : goal.returns-then-has_block
returns-then-has_block g c =
    let queued = c.self.inside.queued.items in
    let f = c.one-item.result in
    let lt : c.loop-one.one-index < length queued =
    omega (arith, c.loop-one-test.true, ap length c.deref-one-items.ensures.value) in
    let is : f ≡ get_or queued c.loop-one.one-index f =
    c.one-item.is
    ∙ ap (λ l. get_or l c.loop-one.one-index f) c.deref-one-items.ensures.value in
    let found =
    found_block queued c.loop-one.one-index f c.args.home lt is (c.has_block.ensures.0 c.if-has_block.true) in
    (λ e. subst (λ o. HasBlock o c.args.home) c.self.view_is found, λ has. refl)

pub loop-one-preserved : goal.loop-one-preserved
loop-one-preserved g c k d lt has =
    let items = c.deref-one-items.result.now in
    let f = c.one-item.result in
    elim (cases_eq k c.loop-one.one-index) [
      | inl same ↦
          (let is : get_or items k d ≡ f = ap (λ i. get_or items i d) same
          ∙ get_or_default items c.loop-one.one-index d f c.loop-one-test.true ∙ sym c.one-item.is in
          both_ways c.has_block.result c.if-has_block.false
          (c.has_block.ensures.1 (subst (λ (x : QueuedWriteOut). Contains x.write_out.batch.homes c.args.home) is has)))
      | inr other ↦ c.loop-one.invariant k d (omega arith) has
    ]

pub returns : goal.returns
returns g c =
    let queued = c.self.inside.queued.items in
    let items = c.deref-one-items.result.now in
    let none : (k : ℕ) (d : QueuedWriteOut) → k < length items
    → Contains (get_or items k d).write_out.batch.homes c.args.home → ⊥ =
    λ k d lt. c.loop-one.invariant k d (omega (arith, lt, c.loop-one-test.false)) in (
      λ e. absurd (both_ways false refl e),
      λ has. absurd (no_block queued c.args.home (subst (λ (l : List QueuedWriteOut).
          (k : ℕ) (d : QueuedWriteOut) → k < length l → Contains (get_or l k d).write_out.batch.homes c.args.home → ⊥)
          c.deref-one-items.ensures.value none)
          (subst (λ o. HasBlock o c.args.home) (sym c.self.view_is) has)),
    )
