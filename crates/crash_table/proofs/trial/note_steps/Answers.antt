use Rattle.std.proofs.Common.{rules, ℕ, ◌<◌, ◌≤◌, List, [], length, refl, sym, ap, subst, ◌∙◌}
use Rattle.machine.specs.declared.act.Reply.{Reply}
use Rattle.crash_table.specs.Calls.{StepsCounted}
use Rattle.crash_table.proofs.Counted.{counted_all, counted_next}
use Rattle.crash_table.proofs.trial.note_steps.Goals as goal

pub loop-step-init : goal.loop-step-init
loop-step-init g c =
    let machine = c.args.machine.now in
    let P : List Reply → Type 0 = λ l. StepsCounted g.D.Device machine [] l c.new-counts.result.items machine in
    let Q : List ℕ → Type 0 = λ l. StepsCounted g.D.Device machine [] [] l machine in
    subst P (sym c.new-replies.ensures.items) (subst Q (sym c.new-counts.ensures.items) refl)

pub loop-step-preserved : goal.loop-step-preserved
loop-step-preserved g c =
    let disk = g.D.Device in
    let below : c.loop-step.step-index < length c.args.steps.now = search rules in
    let count = c.calls.ensures ∙ ap (λ d. disk.calls_made d) c.device.ensures in
    counted_next disk disk.calls_made c.args.machine.now c.loop-step.machine c.enter.new.self c.args.steps.now
    c.loop-step.step-index c.step-item.result c.loop-step.replies.items c.loop-step.counts.items c.enter.result
    c.calls.result _ _ below c.step-item.is c.loop-step.invariant c.enter.ensures.taken (sym count)
    c.in_ok-push.ensures.items c.in_ok-push-2.ensures.items

pub returns : goal.returns
returns g c =
    let past : length c.args.steps.now ≤ c.loop-step.step-index = search rules in
    counted_all g.D.Device g.D.Device.calls_made c.args.machine.now c.loop-step.machine c.args.steps.now
    c.loop-step.step-index c.loop-step.replies.items c.loop-step.counts.items past c.loop-step.invariant
