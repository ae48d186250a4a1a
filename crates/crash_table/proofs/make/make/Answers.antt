use Rattle.std.proofs.Common.{rules, ◌≡◌, ℕ, ◌+◌, ◌<◌, ◌≤◌, List, [], ◌∷◌, ◌++◌, inl, inr, length, take}
use Rattle.std.proofs.Common.{refl, sym, ap, subst, ◌∙◌}
use Rattle.std.proofs.lemmas.List.{take_all}
use Rattle.machine.specs.declared.act.Reply.{Reply}
use Rattle.machine.specs.Runs.{StepsTaken}
use Rattle.engine.proofs.Public.{taken_next, taken_length, length_more}
use Rattle.crash_table.proofs.make.make.Goals.{In_ok-push}
use Rattle.crash_table.proofs.make.make.Goals as goal

pub loop-step-init : goal.loop-step-init
loop-step-init g c =
    let none = c.new-replies.ensures.items in
    let P : List Reply → Type 0 = λ l. StepsTaken g.D.Device c.args.machine.now [] l c.args.machine.now in
    (ap (λ (l : List Reply). length l) none, subst P (sym none) refl)

-- one step more was made
one_more : (g : _) (c : In_ok-push g)
    → (length c.push.new.self.items ≡ c.loop-step.step-index + 1)
    × StepsTaken g.D.Device c.args.machine.now
    (take (c.loop-step.step-index + 1) c.args.steps.now) c.push.new.self.items
    c.enter-reply.new.self
one_more g c =
    let old = c.args.machine.now in
    let earlier = c.loop-step.replies.items in
    let reply = c.enter-reply.result in
    let index = c.loop-step.step-index in
    let steps = c.args.steps.now in
    let below : index < length steps = search rules in
    let more = c.in_ok-push.ensures.items in
    let P : List Reply → Type 0 = λ l. StepsTaken g.D.Device old (take (index + 1) steps) l c.enter-reply.new.self in (
      ap (λ (l : List Reply). length l) more ∙ length_more earlier reply index c.loop-step.invariant.0,
      subst P (sym more) (taken_next g.D.Device old c.loop-step.machine c.enter-reply.new.self steps index
          c.step-item.result earlier reply below c.step-item.is c.loop-step.invariant.1 c.enter-reply.ensures.taken),
    )

pub loop-step-preserved : goal.loop-step-preserved
loop-step-preserved g c = one_more g (goal.at.loop-step-preserved g c).In_ok-push

pub returns-then-is_failure-clause-made : goal.returns-then-is_failure-clause-made
returns-then-is_failure-clause-made g c =
    let steps = c.args.steps.now in
    let more = one_more g (goal.at.returns-then-is_failure-clause-made g c).In_ok-push in
    let Q : ℕ → Type 0 = λ n.
    StepsTaken g.D.Device c.args.machine.now (take n steps) c.push.new.self.items c.enter-reply.new.self in
    subst Q (sym more.0) more.1

pub returns-then-is_failure-clause-ended : goal.returns-then-is_failure-clause-ended
returns-then-is_failure-clause-ended g c =
    inr (
      c.loop-step.replies.items,
      c.in_ok-push.ensures.items
          ∙ ap (λ (r : Reply). c.loop-step.replies.items ++ r ∷ []) (c.is_failure.ensures.0 c.if-is_failure.true),
    )

pub returns-clause-made : goal.returns-clause-made
returns-clause-made g c =
    let steps = c.args.steps.now in
    let Q : ℕ → Type 0 = λ n.
    StepsTaken g.D.Device c.args.machine.now (take n steps) c.loop-step.replies.items c.loop-step.machine in
    subst Q (sym c.loop-step.invariant.0) c.loop-step.invariant.1

pub returns-clause-ended : goal.returns-clause-ended
returns-clause-ended g c =
    let steps = c.args.steps.now in
    let past : length steps ≤ c.loop-step.step-index = search rules in
    inl (taken_length g.D.Device c.args.machine.now (take c.loop-step.step-index steps) c.loop-step.replies.items
    c.loop-step.machine c.loop-step.invariant.1 ∙ ap length (take_all c.loop-step.step-index steps past))
