use Rattle.std.proofs.Common.{◌≡◌, ℕ, ◌+◌, ◌<◌, [], ◌∷◌, ◌++◌, length, take, refl, sym, subst, rules}
use Rattle.std.proofs.lemmas.Bool.{false≢true}
use Rattle.machine.specs.Runs.{StepsTaken}
use Rattle.engine.proofs.Runs.{heard_more, taken_next, length_more}
use Rattle.engine.proofs.running.make_portion.Goals as goal

pub loop-step-init : goal.loop-step-init
loop-step-init g c = ([], refl, refl, refl)

pub returns-then-not-hear : goal.returns-then-not-hear
returns-then-not-hear g c =
    let earlier = c.loop-step.invariant.0 in
    let reply = c.enter-reply.result in
    let old = c.args.machine.now in
    let new = c.enter-reply.new.self in
    let steps = c.args.portion.now in
    let count : length (earlier ++ reply ∷ []) ≡ c.loop-step.step-index + 1 =
    length_more earlier reply _ c.loop-step.invariant.1 in
    let below : c.loop-step.step-index < length steps = search rules in
    let taken : StepsTaken g.D.Device old (take (c.loop-step.step-index + 1) steps) (earlier ++ reply ∷ []) new =
    taken_next g.D.Device old c.loop-step.machine new steps c.loop-step.step-index c.step-item.result earlier reply
    below c.step-item.is c.loop-step.invariant.3 c.enter-reply.ensures.taken in
    let P : ℕ → Type 0 = λ n. StepsTaken g.D.Device old (take n steps) (earlier ++ reply ∷ []) new in (
      earlier ++ reply ∷ [],
      λ never. absurd (false≢true never),
      λ ended. record {
        earlier = earlier;
        last = reply;
        split = refl;
        before = c.loop-step.listener;
        heard = c.loop-step.invariant.2;
        stopped = c.if-not-hear.ensures;
      },
      subst P (sym count) taken,
    )

pub loop-step-preserved : goal.loop-step-preserved
loop-step-preserved g c =
    let earlier = c.loop-step.invariant.0 in
    let reply = c.enter-reply.result in
    let below : c.loop-step.step-index < length c.args.portion.now = search rules in (
      earlier ++ reply ∷ [],
      length_more earlier reply _ c.loop-step.invariant.1,
      heard_more g.L.Listener.hears c.args.listener.now c.loop-step.listener c.hear.new.self earlier reply
          c.loop-step.invariant.2 c.if-not-hear.ensures,
      taken_next g.D.Device c.args.machine.now c.loop-step.machine c.enter-reply.new.self c.args.portion.now
          c.loop-step.step-index c.step-item.result earlier reply below c.step-item.is c.loop-step.invariant.3
          c.enter-reply.ensures.taken,
    )
