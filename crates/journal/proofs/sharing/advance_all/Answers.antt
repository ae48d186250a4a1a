use Rattle.std.proofs.Common.{◌≡◌, ◌<◌, suc, ◌+◌, length, get_or, set, refl, sym, ap, ◌∙◌, subst, arith}
use Rattle.std.specs.Prelude.{IsSome}
use Rattle.journal.specs.WriteOut.{next_stage}
use Rattle.journal.specs.inside.Queued.{QueuedWriteOut, queued_advanced}
use Rattle.journal.proofs.Joined.{advanced_to, next_one, advanced_more, advanced_whole, going_at}
use Rattle.journal.proofs.sharing.advance_all.Goals as goal

pub loop-place-init : goal.loop-place-init
loop-place-init g c = record { items = refl; capacity = refl; all = omega (arith, c.len-place-end.ensures) }

module _ (g : _) (c : goal.After-index_mut g) where
  abbrev one : QueuedWriteOut
  one = c.index_mut.result.now

  within : c.loop-place.place < length c.args.queued.now.items
  within = omega (arith, c.loop-place-test.true, c.loop-place.invariant.all)

  pub here : one ≡ get_or c.args.queued.now.items c.loop-place.place one
  here =
      c.index_mut.ensures.value
      ∙ ap (λ l. get_or l c.loop-place.place one) c.loop-place.invariant.items
      ∙ next_one c.loop-place.place c.args.queued.now.items one

pub advance-requires : goal.advance-requires
advance-requires g c = subst (λ (x : QueuedWriteOut). IsSome (next_stage x.write_out)) (sym (here g c))
    (going_at c.args.queued.now.items c.loop-place.place c.index_mut.result.now (within g c) c.requires.going)

pub loop-place-preserved : goal.loop-place-preserved
loop-place-preserved g c = record {
  items =
      ap (λ l. set l c.loop-place.place c.advance.new.self) c.loop-place.invariant.items
      ∙ advanced_more c.loop-place.place c.args.queued.now.items c.index_mut.result.now c.advance.new.self
      (omega (arith, c.loop-place-test.true, c.loop-place.invariant.all))
      (c.advance.ensures
      ∙ ap queued_advanced (c.index_mut.ensures.value
      ∙ ap (λ l. get_or l c.loop-place.place c.index_mut.result.now) c.loop-place.invariant.items
      ∙ next_one c.loop-place.place c.args.queued.now.items c.index_mut.result.now))
      ∙ ap (λ n. advanced_to n c.args.queued.now.items)
      (let e : suc c.loop-place.place ≡ c.loop-place.place + 1 = omega arith in e);
  capacity = c.loop-place.invariant.capacity;
  all = c.loop-place.invariant.all;
}

pub returns-clause-queued : goal.returns-clause-queued
returns-clause-queued g c =
    c.loop-place.invariant.items
    ∙ advanced_whole c.loop-place.place c.args.queued.now.items
    (omega (arith, c.loop-place-test.false, c.loop-place.invariant.all))
