use Rattle.machine.proofs.Names.{◌≡◌, Result, refl, sym, ap, ◌∙◌, subst, ⊎_elim, did_as, Refusal, next_work}
use Rattle.machine.proofs.Names.{Reply, Layers, State, Acts, state_in, AnswersBy}
use Rattle.machine.proofs.Names.{HasSmallMark, memory_after, checkpoint_after}
use Rattle.machine.specs.declared.act.Act.TheVariants as acts
use Rattle.machine.specs.inside.Flushing.{IsStepped, reply_of_flush}
use Rattle.machine.specs.inside.Layers.{reply_to as reply_by}
use Rattle.machine.proofs.code.Records.{is_next_page, small-next_answer}
use Rattle.machine.proofs.code.Flushes.{stepped, flushes_by, answer_work, answer_done}
use Rattle.machine.proofs.layers.Layers.step_with.Goals as goal

pub release_by-requires-clause-some : goal.release_by-requires-clause-some
release_by-requires-clause-some g c = λ writes.
    (is_next_page (state_in c.args.self.now) c.requires.ready.sound (sym c.requires.record ∙ writes)).some

pub reply_to_flush-requires : goal.reply_to_flush-requires
reply_to_flush-requires g c =
    ⊎_elim (λ is. subst HasSmallMark (sym is) (small-next_answer (state_in c.args.self.now) c.requires.ready.sound))
    (λ is. subst HasSmallMark (sym is) tt) c.step-answer.ensures.answer

pub returns : goal.returns
returns g c =
    let s : State = state_in c.args.self.now in
    let answer = c.step-answer.result in
    let seen = g.D.Device.seen in
    let asked = ap (next_work s.write_outs) c.bytes_from-bytes.ensures ∙ c.requires.bytes in
    let whole = c.step-answer.ensures.whole c.requires.ready.whole in
    let state : record s {
      hardware = record s.hardware { memory = memory_after answer c.args.writes_record s.checkpoint s.hardware.memory };
      checkpoint = checkpoint_after answer c.args.writes_record s.checkpoint;
      write_outs = c.step-answer.new.self;
    } ≡ stepped s answer = λ i. record s {
      hardware =
          record s.hardware { memory = memory_after answer (c.requires.record i) s.checkpoint s.hardware.memory };
      checkpoint = checkpoint_after answer (c.requires.record i) s.checkpoint;
      write_outs = c.step-answer.ensures.value i;
    } in
    subst (λ (r : Result Reply Refusal). IsStepped g.D.Device c.args.self.now (reply_by r) c.release_by.new.self)
    (sym c.reply_to_flush.ensures)
    (subst (λ (w : Layers g.row.D.Denot g.row.A.Denot). IsStepped g.D.Device c.args.self.now
    (reply_by (reply_of_flush answer)) w) (sym c.release_by.ensures) (record {
      rules = λ p allowed. subst (λ (n : State). AnswersBy (g.D.Device.is_honest c.args.self.now.device) (λ d d'. Acts s
          d p acts.Flush (reply_by (reply_of_flush answer)) n d') (seen c.args.self.now.device)
          (seen c.step-answer.new.device)) (sym state)
          (flushes_by (g.D.Device.is_honest c.args.self.now.device) s (seen c.args.self.now.device)
          (seen c.step-answer.new.device) p allowed c.requires.ready.some answer c.step-answer.ensures.answer whole
          (did_as g.D.Device asked refl c.step-answer.ensures.did).seen);
      did = did_as g.D.Device (asked ∙ sym (answer_work s answer whole)) (answer_done answer) c.step-answer.ensures.did;
      kept = record { same_table = refl; still_reserved = λ reserved. reserved };
    }))
