use Rattle.std.proofs.Common.{◌≡◌, ℕ, ◌+◌, ◌<◌, [], ◌∷◌, ◌++◌, length, take, refl, sym, inr}
use Rattle.std.proofs.Common.{subst, rules}
use Rattle.engine.proofs.Public.{length_more}
use Rattle.engine.proofs.Runs.{heard_more}
use Rattle.machine_log.specs.inside.Standing.{StepsStand}
use Rattle.machine_log.proofs.Standing.{stand_next}
use Rattle.machine_log.proofs.running.make_steps.Goals as goal

pub loop-step-init : goal.loop-step-init
loop-step-init g c = ([], refl, refl, refl)

pub returns-then-not-hear : goal.returns-then-not-hear
returns-then-not-hear g c =
    let told = c.loop-step.invariant in
    let reply = c.make_step-reply.result in
    let steps = c.args.steps.now in
    let below : c.loop-step.step-index < length steps = search rules in
    let count : length (told.0 ++ reply ∷ []) ≡ c.loop-step.step-index + 1 = length_more told.0 reply _ told.1 in
    let P : ℕ → Type 0 = λ n. StepsStand g.D.Device c.args.machine.now (take n steps) (told.0 ++ reply ∷ [])
    c.make_step-reply.new.machine in (
      told.0 ++ reply ∷ [],
      inr (record {
        earlier = told.0;
        last = reply;
        split = refl;
        before = c.loop-step.listener;
        heard = told.2;
        stopped = c.if-not-hear.ensures;
      }),
      subst P (sym count) (stand_next g.D.Device c.args.machine.now c.loop-step.machine
          c.make_step-reply.new.machine steps c.loop-step.step-index c.step-item.result told.0 reply below
          c.step-item.is told.3 c.make_step-reply.ensures),
    )

pub loop-step-preserved : goal.loop-step-preserved
loop-step-preserved g c =
    let told = c.loop-step.invariant in
    let reply = c.make_step-reply.result in
    let below : c.loop-step.step-index < length c.args.steps.now = search rules in (
      told.0 ++ reply ∷ [],
      length_more told.0 reply _ told.1,
      heard_more g.L.Listener.hears c.args.listener.now c.loop-step.listener c.hear.new.self told.0 reply told.2
          c.if-not-hear.ensures,
      stand_next g.D.Device c.args.machine.now c.loop-step.machine c.make_step-reply.new.machine c.args.steps.now
          c.loop-step.step-index c.step-item.result told.0 reply below c.step-item.is told.3 c.make_step-reply.ensures,
    )
