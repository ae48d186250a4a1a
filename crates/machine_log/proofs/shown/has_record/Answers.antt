use Rattle.std.proofs.Common.{◌≡◌, false, get_or, inl, inr, ap, ◌∙◌, sym, subst, arith, refl}
use Rattle.std.specs.List.{Contains}
use Rattle.std.proofs.lemmas.Bool.{cases_eq, both_ways}
use Rattle.std.proofs.lemmas.List.{get_or_default}
use Rattle.volume_codec.specs.Recovery.{Batch}
use Rattle.machine_log.proofs.Records.{has_at, none_has}
use Rattle.machine_log.proofs.shown.has_record.Goals as goal

pub loop-one-init : goal.loop-one-init
loop-one-init g c k d lt has = absurd (omega (arith, lt))

pub loop-one-preserved : goal.loop-one-preserved
loop-one-preserved g c k d lt has =
    let items = c.args.opened.now in
    let f = c.one-item.result in
    elim (cases_eq k c.loop-one.one-index) [
      | inl same ↦
          (let is : get_or items k d ≡ f = ap (λ i. get_or items i d) same
          ∙ get_or_default items c.loop-one.one-index d f c.loop-one-test.true ∙ sym c.one-item.is in
          both_ways c.has_block.result c.if-has_block.false
          (c.has_block.ensures.1 (subst (λ (x : Batch). Contains x.homes c.args.home) is has)))
      | inr other ↦ c.loop-one.invariant k d (omega arith) has
    ]

pub returns-then-has_block : goal.returns-then-has_block
returns-then-has_block g c =
    let f = c.one-item.result in (
      λ e. has_at c.args.opened.now c.loop-one.one-index f c.args.home c.loop-one-test.true
          (subst (λ (x : Batch). Contains x.homes c.args.home) c.one-item.is
          (c.has_block.ensures.0 c.if-has_block.true)),
      λ has. refl,
    )

pub returns : goal.returns
returns g c = (
  λ e. absurd (both_ways false refl e),
  λ has. absurd (none_has c.args.opened.now c.args.home
      (λ k d lt. c.loop-one.invariant k d (omega (arith, lt, c.loop-one-test.false))) has),
)
