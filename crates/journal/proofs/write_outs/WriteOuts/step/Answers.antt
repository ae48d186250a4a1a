use Rattle.std.proofs.Common.{◌≡◌, ℕ, List, [], false, Some}
use Rattle.std.proofs.Common.{map, ap, ◌∙◌, sym, subst, inl, inr, ⊎_elim, arith, refl}
use Rattle.std.specs.Prelude.{IfSome, IfNone}
use Rattle.std.specs.Option.{option_map_or}
use Rattle.std.specs.Vec.{vec_capacity}
use Rattle.std.proofs.lemmas.Bool.{cond-true, cond-false}
use Rattle.std.proofs.lemmas.List.{length-map}
use Rattle.device.specs.Device.{LeavesOnly}
use Rattle.journal.specs.declared.flushed.Flushed.{Flushed}
use Rattle.journal.specs.declared.flushed.Flushed.TheVariants.{Broken}
use Rattle.journal.specs.Work.{Nothing}
use Rattle.journal.specs.WriteOut.{work_of, answer_of}
use Rattle.journal.specs.WriteOuts.{WriteOutsValue, shares_syncs, current_stage}
use Rattle.journal.specs.WriteOuts.{outs_moving, outs_home, next_work, next_answer, outs_after}
use Rattle.volume_codec.specs.Super.{SuperValue}
use Rattle.device.proofs.Moments.{leaves_weaker, leaves_at_start}
use Rattle.device.proofs.Done.{did_as, did_nothing}
use Rattle.journal.specs.Crash.{LeftWithin}
use Rattle.journal.specs.LedTo.{IsStep, HasLedTo, Stepped}
use Rattle.journal.specs.inside.Sound.{IsSound}
use Rattle.journal.specs.inside.Room.{write_outs_in, IsLone, IsJoint, HasRoom}
use Rattle.journal.proofs.Answering.{step_sound}
use Rattle.journal.proofs.KeptConsistent.{consistent_left, consistent_within, consistent}
use Rattle.journal.proofs.Rooms.{some_queued, after_view, after_room}
use Rattle.journal.proofs.Joined.{none_given}
use Rattle.journal.proofs.write_outs.WriteOuts.step.Goals as goal

pub step_next-answer-requires-clause-some : goal.step_next-answer-requires-clause-some
step_next-answer-requires-clause-some g c = omega (
  arith,
  some_queued c.self.inside.queued.items
      (λ e. c.requires.some (sym (ap (λ (o : WriteOutsValue). o.batches) c.self.view_is) ∙ e)),
  c.self.inside.queued.ok.0,
)

pub step_next-answer-requires-clause-each : goal.step_next-answer-requires-clause-each
step_next-answer-requires-clause-each g c = c.self.invariant.sound.each

pub step_next-answer-requires-clause-lone : goal.step_next-answer-requires-clause-lone
step_next-answer-requires-clause-lone g c =
    subst (λ o. IfSome c.lone_place-place.result (IsLone (shares_syncs o.geometry.layout) o.batches))
    (sym c.self.view_is) c.lone_place-place.ensures.lone

pub step_next-answer-requires-clause-joint : goal.step_next-answer-requires-clause-joint
step_next-answer-requires-clause-joint g c =
    subst (λ o. IfNone c.lone_place-place.result (IsJoint (shares_syncs o.geometry.layout) o.batches))
    (sym c.self.view_is) (none_given _ _ c.lone_place-place.result c.lone_place-place.ensures.joint c.requires.some)

pub conclude-requires-clause-some : goal.conclude-requires-clause-some
conclude-requires-clause-some g c = omega (
  arith,
  some_queued c.self.inside.queued.items
      (λ e. c.requires.some (sym (ap (λ (o : WriteOutsValue). o.batches) c.self.view_is) ∙ e)),
  c.step_next-answer.ensures.count,
  c.step_next-answer.new.queued.ok.0,
)

pub conclude-requires-clause-room : goal.conclude-requires-clause-room
conclude-requires-clause-room g c = omega (
  arith,
  some_queued c.self.inside.queued.items
      (λ e. c.requires.some (sym (ap (λ (o : WriteOutsValue). o.batches) c.self.view_is) ∙ e)),
  c.self.invariant.count,
  c.self.invariant.spare_fits,
  length-map c.self.inside.spare.items (λ list. vec_capacity list),
  c.self.inside.spare.ok.0,
)

module _ (g : _) (c : goal.After-conclude g) where
  abbrev outs : WriteOutsValue
  outs = record {
    geometry = c.self.inside.geometry;
    next = c.self.inside.next;
    batches = write_outs_in c.self.inside.queued.items;
    broken = c.self.inside.broken;
  }

  abbrev bytes : List ℕ
  bytes = c.args.bytes.now

  some : outs.batches ≡ [] → ⊥
  some e = c.requires.some (sym (ap (λ (o : WriteOutsValue). o.batches) c.self.view_is) ∙ e)

  same_work : option_map_or (work_of outs.geometry bytes) (outs_moving outs) Nothing ≡ next_work c.args.self.now bytes
  same_work =
      sym (cond-false outs.broken Nothing
      (option_map_or (work_of outs.geometry bytes) (outs_moving outs) Nothing) c.if-self.false)
      ∙ ap (λ o. next_work o bytes) c.self.view_is

  same_answer : option_map_or answer_of (outs_moving outs) Broken ≡ next_answer outs
  same_answer = sym (cond-false outs.broken Broken (option_map_or answer_of (outs_moving outs) Broken) c.if-self.false)

  not_broken : c.step_next-answer.result ≡ Broken → ⊥
  not_broken = c.step_next-answer.ensures.sane

  sound : IsSound (outs_after outs c.step_next-answer.result)
  sound = ⊎_elim
      (λ is. subst (λ (a : Flushed). IsSound (outs_after outs a)) (sym (is ∙ same_answer))
      (step_sound outs c.self.invariant.sound c.if-self.false some))
      (λ is. subst (λ (a : Flushed). IsSound (outs_after outs a)) (sym is) c.self.invariant.sound)
      c.step_next-answer.ensures.answer

  value : record outs { batches = write_outs_in c.conclude.new.queued.items; broken = c.conclude.new.broken }
      ≡ outs_after outs c.step_next-answer.result
  value =
      (λ i. record outs { batches = write_outs_in (c.conclude.ensures.queued i); broken = c.conclude.ensures.broken i })
      ∙ after_view outs c.step_next-answer.new.queued.items c.step_next-answer.result not_broken
      c.step_next-answer.ensures.batches

pub invariant_of-self : goal.invariant_of-self
invariant_of-self g c =
    let has = after_room (outs g c) c.self.inside.queued.items c.step_next-answer.new.queued.items
    c.step_next-answer.result
    (map (λ list. vec_capacity list) c.self.inside.spare.items)
    (map (λ list. vec_capacity list) c.conclude.new.spare.items) (vec_capacity c.self.inside.queued)
    (vec_capacity c.conclude.new.queued) (vec_capacity c.self.inside.spare) (vec_capacity c.conclude.new.spare)
    c.self.invariant (sound g c) c.step_next-answer.ensures.rooms c.conclude.ensures.spare
    (omega (arith, c.conclude.ensures.capacity, c.step_next-answer.ensures.capacity))
    c.conclude.ensures.spare_capacity in
    subst (λ o. HasRoom o c.conclude.new.queued.items (vec_capacity c.conclude.new.queued)
    (map (λ list. vec_capacity list) c.conclude.new.spare.items) (vec_capacity c.conclude.new.spare))
    (sym (value g c))
    (subst (λ l. HasRoom (outs_after (outs g c) c.step_next-answer.result) l (vec_capacity c.conclude.new.queued)
    (map (λ list. vec_capacity list) c.conclude.new.spare.items) (vec_capacity c.conclude.new.spare))
    (sym c.conclude.ensures.queued) has)

pub returns-clause-value : goal.returns-clause-value
returns-clause-value g c = value g c ∙ ap (λ o. outs_after o c.step_next-answer.result) c.self.view_is

pub returns-clause-whole : goal.returns-clause-whole
returns-clause-whole g c sane = not_broken g c

pub returns-clause-answer : goal.returns-clause-answer
returns-clause-answer g c = ⊎_elim (λ is. inl (is ∙ same_answer g c ∙ ap next_answer c.self.view_is))
    (λ is. inr is) c.step_next-answer.ensures.answer

pub returns-clause-did : goal.returns-clause-did
returns-clause-did g c = did_as g.D.Device (same_work g c) refl c.step_next-answer.ensures.did

module _ (g : _) (c : goal.After-conclude g) where
  is_whole : c.args.self.now.broken ≡ false
  is_whole = sym (ap (λ (o : WriteOutsValue). o.broken) c.self.view_is) ∙ c.if-self.false

  is_some : c.args.self.now.batches ≡ [] → ⊥
  is_some e = some g c (ap (λ (o : WriteOutsValue). o.batches) c.self.view_is ∙ e)

  is_step : g.D.Device.is_honest c.args.device.now
      → IsStep g.D.Device c.args.self.now (bytes g c) c.step_next-answer.result c.args.device.now
      c.step_next-answer.new.device
  is_step honest = record {
    whole = is_whole;
    some = is_some;
    a_block = c.told-bytes;
    answered = returns-clause-answer g c;
    honest = honest;
    did = returns-clause-did g c;
  }

module _ (g : _) (c : goal.After-conclude g) (v : SuperValue) (old new : ℕ → List ℕ)
    (s : HasLedTo g.D.Device v c.args.self.now old new c.args.device.now)
    (is_new : (home : ℕ) → outs_home c.args.self.now ≡ Some home → c.args.bytes.now ≡ new home) where
  pub kept : g.D.Device.is_honest c.args.device.now
      → HasLedTo g.D.Device v (outs_after c.args.self.now c.step_next-answer.result) old new
      c.step_next-answer.new.device
  kept honest = Stepped c.args.self.now old new
      (bytes g c) c.step_next-answer.result c.args.device.now c.step_next-answer.new.device
      (is_step g c honest) is_new s

  pub crashes : LeavesOnly g.D.Device.moment g.D.Device.left_since c.args.device.now c.step_next-answer.new.device
      (LeftWithin v old new (current_stage c.args.self.now))
  crashes = leaves_weaker (returns-clause-did g c).time
      (consistent_within v old new c.args.self.now (g.D.Device.seen c.args.device.now)
      (g.D.Device.may_leave c.args.device.now) (bytes g c) c.told-bytes (consistent g.D.Device v s) (is_whole g c)
      (is_some g c) is_new)

pub returns-clause-leads : goal.returns-clause-leads
returns-clause-leads g c v old new honest s is_new =
    subst (λ o. HasLedTo g.D.Device v o old new c.step_next-answer.new.device) (sym (returns-clause-value g c))
    (kept g c v old new s is_new honest)

pub returns-clause-crash : goal.returns-clause-crash
returns-clause-crash g c v old new s is_new = crashes g c v old new s is_new

pub returns-then-self-clause-crash : goal.returns-then-self-clause-crash
returns-then-self-clause-crash g c v old new s is_new =
    leaves_at_start (λ d left.
    consistent_left v old new c.args.self.now (g.D.Device.seen c.args.device.now)
    (g.D.Device.may_leave c.args.device.now)
    (consistent g.D.Device v s) d (g.met.D.Device.since_now c.args.device.now d left))

pub returns-then-self-clause-did : goal.returns-then-self-clause-did
returns-then-self-clause-did g c = did_as g.D.Device
    (sym (cond-true c.args.self.now.broken Nothing
    (option_map_or (work_of c.args.self.now.geometry c.args.bytes.now) (outs_moving c.args.self.now) Nothing)
    (sym (ap (λ (o : WriteOutsValue). o.broken) c.self.view_is) ∙ c.if-self.true))) refl
    (did_nothing g.D.Device c.args.device.now (g.met.D.Device.since_now c.args.device.now))
