use Rattle.std.proofs.Common.{ℕ, ◌≡◌, ◌+◌, ◌≤◌, ◌∙◌, List, take, length, sym, ap, subst, arith}
use Rattle.std.proofs.lemmas.List.{take_all}
use Rattle.machine.specs.declared.act.Step.{Step}
use Rattle.service.specs.Gathering.{CpuState, answered_calls}
use Rattle.driver.specs.inside.Begun.{HaveMade}
use Rattle.driver.proofs.Steps.{begun_by, none_made, none_answered, step_made_by, step_left_out, one_answered}
use Rattle.driver.proofs.running.make_steps.Goals as goal
use Rattle.driver.proofs.running.make_steps.Goals.{then-p-cpus+else-made-capacity, else-p-cpus}

pub loop-i-init : goal.loop-i-init
loop-i-init g c =
    (none_made c.args.cpus.now c.requires, sym (none_answered c.args.cpus.now c.requires), omega arith)

pub loop-i-preserved : goal.loop-i-preserved
loop-i-preserved g c =
    let steps = c.args.steps.now in
    let i = c.loop-i.i in
    let cpus = c.loop-i.cpus in
    let p = c.from-p.result in
    let step = c.index-steps-i.result in
    let so_far = c.loop-i.invariant in
    let Made : List CpuState → Type 0 = λ after. HaveMade (take (i + 1) steps) after in
    elim c.if-p-cpus.branch [
      | then-p-cpus+else-made-capacity w ↦
          let d = w.index-cpus-p.result in
          let new = w.make_step.new.cpu in
          let reply = w.make_step.result in
          let called = w.make_step.ensures in
          let made = step_made_by steps i step cpus p d new reply c.loop-i-test.true c.index-steps-i.is
          c.from-p.ensures w.if-p-cpus.true called.number called.answered so_far.0 in
          let one = one_answered cpus p d new step.act reply w.if-p-cpus.true called.answered in (
            subst Made (sym w.cpus-is) made,
            w.made-is ∙ ap (λ (n : ℕ). n + 1) so_far.1 ∙ sym one ∙ sym (ap answered_calls w.cpus-is),
            omega (arith, w.made-is, w.if-made-capacity.false, so_far.2),
          )
      | else-p-cpus w ↦
          let past : length cpus ≤ step.p = subst (λ (n : ℕ). length cpus ≤ n) c.from-p.ensures w.if-p-cpus.false in
          let made = step_left_out steps i step cpus c.loop-i-test.true c.index-steps-i.is past so_far.0 in (
            subst Made (sym w.cpus-is) made,
            w.made-is ∙ so_far.1 ∙ sym (ap answered_calls w.cpus-is),
            omega (arith, w.made-is, so_far.2),
          )
    ]

pub returns-clause-all : goal.returns-clause-all
returns-clause-all g c = λ _.
    let steps = c.args.steps.now in
    let all : take c.loop-i.i steps ≡ steps = take_all c.loop-i.i steps c.loop-i-test.false in
    subst (λ (made : List Step). HaveMade made c.loop-i.cpus) all c.loop-i.invariant.0

pub returns-then-made-capacity-clause-begun : goal.returns-then-made-capacity-clause-begun
returns-then-made-capacity-clause-begun g c =
    begun_by c.args.steps.now c.loop-i.i c.loop-i.cpus c.loop-i.invariant.0

pub returns-clause-begun : goal.returns-clause-begun
returns-clause-begun g c = begun_by c.args.steps.now c.loop-i.i c.loop-i.cpus c.loop-i.invariant.0
