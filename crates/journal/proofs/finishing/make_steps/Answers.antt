use Rattle.std.proofs.Common.{◌≡◌, ◌+◌, ◌<◌, false, refl, sym, ap, ◌∙◌, subst, ⊎_elim, arith}
use Rattle.std.specs.Prelude.{IsSome}
use Rattle.device.proofs.Done.{did_as}
use Rattle.journal.specs.declared.flushed.Flushed.TheVariants.{Broken}
use Rattle.journal.specs.Work.{has_done}
use Rattle.journal.specs.WriteOut.{FlushValue, after_steps, committing_steps, all_steps, next_stage, advanced_of}
use Rattle.journal.specs.WriteOut.{flush_work, flush_answer}
use Rattle.journal.specs.inside.Finishing.{IsUnderWay}
use Rattle.journal.proofs.KeptConsistent.{done_unless}
use Rattle.journal.proofs.UnderWay.{late_stage, first_step, under_step, under_failed}
use Rattle.journal.proofs.UnderWay.{under_end, after_value, late_answer_of}
use Rattle.journal.proofs.finishing.make_steps.Goals as goal

pub loop-step-init : goal.loop-step-init
loop-step-init g c =
    let f = c.args.flush.now in
    let batch = f.write_out.batch in
    let before = committing_steps f.geometry.slots batch in
    let place : f.write_out.steps ≡ before + 0 = omega (arith, c.requires.committed, c.requires.described) in
    record {
      value = λ i. record f {
        write_out = record { batch = batch; described = c.requires.described i; steps = place i };
        broken = c.requires.whole i;
      };
      under = subst (λ n. IsUnderWay g.D.Device f.geometry batch n c.args.device.now c.args.device.now)
          (let same : before ≡ before + 0 = omega arith in same)
          (first_step g.D.Device f.geometry batch c.args.device.now c.requires.batch
          (g.met.D.Device.since_now c.args.device.now));
    }

pub step-requires-clause-long : goal.step-requires-clause-long
step-requires-clause-long g c =
    let geometry = ap (λ (f : FlushValue). f.geometry.blocks) c.loop-step.invariant.value in
    omega (arith, geometry, c.loop-step.invariant.under.same_length, c.requires.long)

pub step-requires-clause-going : goal.step-requires-clause-going
step-requires-clause-going g c =
    let batch = c.args.flush.now.write_out.batch in
    let slots = c.args.flush.now.geometry.slots in
    let n = committing_steps slots batch + c.loop-step._step in
    let s = late_stage slots batch n (omega arith) (omega (arith, c.requires.steps)) in
    subst (λ (f : FlushValue). IsSome (next_stage f.write_out)) (sym c.loop-step.invariant.value)
    (subst IsSome (sym s.1) refl)

pub returns-in-Device : goal.returns-in-Device
returns-in-Device g c =
    let f = c.args.flush.now in
    let batch = f.write_out.batch in
    let n = committing_steps f.geometry.slots batch + c.loop-step._step in
    let did = did_as g.D.Device (ap (λ (x : FlushValue). flush_work x _) c.loop-step.invariant.value)
    (ap has_done c.in-Device.is) c.step.ensures.did in
    under_failed g.D.Device f.geometry batch c.requires.batch n _ c.args.device.now c.loop-step.device c.step.new.device
    c.requires.long (omega arith) (omega (arith, c.requires.steps)) c.loop-step.invariant.under _ did

pub loop-step-preserved : goal.loop-step-preserved
loop-step-preserved g c =
    let f = c.args.flush.now in
    let batch = f.write_out.batch in
    let slots = f.geometry.slots in
    let before = committing_steps slots batch in
    let n = before + c.loop-step._step in
    let value = c.loop-step.invariant.value in
    let to : n < all_steps slots batch = omega (arith, c.requires.steps) in
    let whole = c.in_default.not-Device in
    let sane : c.step.result ≡ Broken → ⊥ = λ e.
    ⊎_elim (λ is. late_answer_of slots batch n (omega arith) to (sym (ap flush_answer value) ∙ sym is ∙ e))
    (λ is. whole is) c.step.ensures.answer in
    let did = did_as g.D.Device (ap (λ (x : FlushValue). flush_work x _) value)
    (done_unless c.step.result whole) c.step.ensures.did in
    let next : n + 1 ≡ before + (c.loop-step._step + 1) = omega arith in
    record {
      value =
          c.step.ensures.value
          ∙ after_value c.loop-step.flush c.step.result whole sane
          ∙ ap (λ (x : FlushValue). record x { write_out = advanced_of x.write_out }) value
          ∙ (λ i. record f { write_out = after_steps slots batch (next i); broken = false });
      under = subst (λ m. IsUnderWay g.D.Device f.geometry batch m c.args.device.now c.step.new.device) next
          (under_step g.D.Device f.geometry batch c.requires.batch n _ c.args.device.now c.loop-step.device
          c.step.new.device c.requires.long (omega arith) to c.loop-step.invariant.under did);
    }

pub returns : goal.returns
returns g c =
    let f = c.args.flush.now in
    let batch = f.write_out.batch in
    under_end g.D.Device f.geometry batch
    (committing_steps f.geometry.slots batch + c.loop-step._step) c.args.device.now
    c.loop-step.device (omega (arith, c.requires.steps)) c.loop-step.invariant.under
