use Rattle.std.proofs.Common.{◌<◌, ◌≤◌, length, refl, rules}
use Rattle.std.proofs.KnownBytes.{Appends-nil}
use Rattle.session.proofs.Stretches.{does_nothing}
use Rattle.session.proofs.Writing.{ok_after, reply_more, reply_lost, replies_are_first, steps_answered}
use Rattle.session.proofs.session.Session.answer_steps.Goals as goal

pub loop-i-init : goal.loop-i-init
loop-i-init g c = does_nothing g.D.Device _ _ _ (refl, refl, Appends-nil (g.W.Write.contents c.args.out.now))

pub returns-in-Err : goal.returns-in-Err
returns-in-Err g c =
    let below : c.loop-i.i < length c.args.steps.now = search rules in
    record {
      does = reply_lost g.D.Device _ _ _ _ _ _ c.args.steps.now c.loop-i.i c.index-steps-i.result _ _ _ below
          c.index-steps-i.is c.loop-i.invariant c.make-reply.ensures.makes;
      answers = tt;
      phases = tt;
    }

pub loop-i-preserved : goal.loop-i-preserved
loop-i-preserved g c =
    let below : c.loop-i.i < length c.args.steps.now = search rules in
    reply_more g.D.Device _ _ _ _ _ _ c.args.steps.now c.loop-i.i c.index-steps-i.result _ _ _ _ below
    c.index-steps-i.is c.loop-i.invariant c.make-reply.ensures.makes c.in_default.ensures

pub returns : goal.returns
returns g c =
    let contents = g.W.Write.contents in
    let past : length c.args.steps.now ≤ c.loop-i.i = search rules in
    record {
      does = replies_are_first g.D.Device _ _ _ _ _ _ _ _ c.loop-i.invariant;
      answers = ok_after c.write_all.result c.map_err.result c.map_err.ensures.variant
          (steps_answered g.D.Device _ _ _ _ c.args.steps.now c.loop-i.i (contents c.args.out.now)
          (contents c.loop-i.out) (contents c.write_all.new.self) past c.loop-i.invariant)
          c.write_all.ensures.bytes;
      phases = tt;
    }
