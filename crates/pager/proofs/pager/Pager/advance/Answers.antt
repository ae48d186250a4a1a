use Rattle.std.proofs.Common.{◌≡◌, ℕ, ◌≤◌, List, length, subst, sym, ap, ◌∙◌, ◌⊎◌, arith}
use Rattle.journal.specs.declared.flushed.Flushed.{Flushed}
use Rattle.journal.specs.declared.flushed.Flushed.TheVariants.{Device}
use Rattle.journal.specs.WriteOut.{WriteOut}
use Rattle.journal.specs.Work.{has_done}
use Rattle.journal.specs.WriteOuts.{WriteOutsValue, shares_syncs, next_answer, next_work, outs_after}
use Rattle.device.specs.Did.{Did}
use Rattle.kept_blocks.specs.Blocks.{Blocks}
use Rattle.pager.specs.State.{PagerState, record_for}
use Rattle.pager.specs.Calls.{after_step, next_bytes}
use Rattle.pager.specs.inside.Sound.{IsSound}
use Rattle.pager.proofs.Stepping.{tied_after, fewer_after, all_after}
use Rattle.pager.proofs.Inside.{state_of}
use Rattle.pager.proofs.pager.Pager.advance.Goals as goal

stepped : {D : Type 0} (seen : D → List ℕ) (s : PagerState D) (answer : Flushed) (device : D)
    → IsSound seen s → length (seen device) ≡ length (seen s.device) → IsSound seen (after_step s answer device)
stepped seen s answer device sound same = record {
  fits = sound.fits;
  long = omega (arith, same, sound.long);
  lengths = sound.lengths;
  geometry = sound.geometry;
  rising = sound.rising;
  ends = sound.ends;
  few = sound.few;
  most = sound.most;
  tied = tied_after (shares_syncs s.write_outs.geometry.layout) answer s.write_outs.batches s.records sound.tied;
  few_batches = omega (
    arith,
    fewer_after (shares_syncs s.write_outs.geometry.layout) answer s.write_outs.batches,
    sound.few_batches,
  );
  marked = all_after (λ (w : WriteOut). w.batch.mark ≤ s.marks) (λ w le. le) (shares_syncs
      s.write_outs.geometry.layout) answer s.write_outs.batches
      sound.marked;
}

pub invariant_of-self : goal.invariant_of-self
invariant_of-self g c =
    let s : PagerState g.row.D.Denot = state_of c.self.inside in
    let p = c.self.invariant in
    let sound = stepped g.D.Device.seen s c.step-answer.result c.step-answer.new.device p.sound
    c.step-answer.ensures.did.same_length in
    record {
      sound = subst (λ (o : WriteOutsValue). IsSound g.D.Device.seen (record s {
        write_outs = o;
        records = c.conclude.new.records.items;
        device = c.step-answer.new.device;
      })) (sym c.step-answer.ensures.value)
          (subst (λ (l : List Blocks). IsSound g.D.Device.seen (record s {
            write_outs = outs_after s.write_outs c.step-answer.result;
            records = l;
            device = c.step-answer.new.device;
          })) (sym c.conclude.ensures.items) sound);
      lists = omega (arith, c.conclude.ensures.room, p.lists);
      homes = p.homes;
    }

pub returns-clause-answer : goal.returns-clause-answer
returns-clause-answer g c = subst (λ (s : PagerState g.row.D.Denot).
    (c.step-answer.result ≡ next_answer s.write_outs) ⊎ (c.step-answer.result ≡ Device))
    c.self.view_is c.step-answer.ensures.answer

pub returns-clause-a_block : goal.returns-clause-a_block
returns-clause-a_block g c =
    sym (ap length (c.record_for-bytes.ensures
    ∙ (λ i. record_for (c.deref.ensures.value i) (c.next_home-home.ensures i))
    ∙ ap (λ (s : PagerState g.row.D.Denot). next_bytes s) c.self.view_is))
    ∙ c.has_whole_block.ensures

pub returns-clause-did : goal.returns-clause-did
returns-clause-did g c =
    let new = c.step-answer.new.device in
    let done = has_done c.step-answer.result in
    subst (λ (s : PagerState g.row.D.Denot). Did g.D.Device s.device (next_work s.write_outs (next_bytes s)) done new)
    c.self.view_is
    (subst (λ (bytes : List ℕ). Did g.D.Device c.self.inside.device (next_work c.self.inside.write_outs bytes) done new)
    (c.record_for-bytes.ensures
    ∙ (λ i. record_for (c.deref.ensures.value i) (c.next_home-home.ensures i)))
    c.step-answer.ensures.did)
