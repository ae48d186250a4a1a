use Rattle.std.proofs.Common.{rules, ℕ, ◌<◌, ◌≤◌, List, [], length, refl, sym, ap, subst, ◌∙◌}
use Rattle.machine.specs.declared.act.Reply.{Reply}
use Rattle.machine_log.specs.Disk.{LogDiskValue}
use Rattle.crash_states.specs.Calls.{ListedDisk}
use Rattle.crash_table.specs.Calls.{listing_memory, StepsCountedBy}
use Rattle.crash_table.proofs.Counted.{counted_all, counted_next}
use Rattle.machine_log.specs.Disk.{shown_by}
use Rattle.crash_table.specs.Runs.{calls_below}
use Rattle.crash_table.proofs.running.note_steps.Goals as goal

pub loop-step-init : goal.loop-step-init
loop-step-init g c =
    let machine = c.args.machine.now in
    let disk = shown_by listing_memory in
    let P : List Reply → Type 0 = λ l.
    StepsCountedBy disk calls_below machine [] l c.new-counts.result.items machine in
    let Q : List ℕ → Type 0 = λ l. StepsCountedBy disk calls_below machine [] [] l machine in
    subst P (sym c.new-replies.ensures.items) (subst Q (sym c.new-counts.ensures.items) refl)

pub loop-step-preserved : goal.loop-step-preserved
loop-step-preserved g c =
    let below : c.loop-step.step-index < length c.args.steps.now = search rules in
    let count = c.calls.ensures
    ∙ ap (λ (d : ListedDisk). d.made)
    (c.device-below.ensures ∙ ap (λ (s : LogDiskValue ListedDisk). s.device) c.device-shown.ensures) in
    counted_next (shown_by listing_memory) calls_below c.args.machine.now c.loop-step.machine c.enter.new.self
    c.args.steps.now c.loop-step.step-index c.step-item.result c.loop-step.replies.items c.loop-step.counts.items
    c.enter.result c.calls.result _ _ below c.step-item.is c.loop-step.invariant c.enter.ensures.taken (sym count)
    c.in_ok-push.ensures.items c.in_ok-push-2.ensures.items

pub returns : goal.returns
returns g c =
    let past : length c.args.steps.now ≤ c.loop-step.step-index = search rules in
    counted_all (shown_by listing_memory) calls_below c.args.machine.now c.loop-step.machine c.args.steps.now
    c.loop-step.step-index c.loop-step.replies.items c.loop-step.counts.items past c.loop-step.invariant
