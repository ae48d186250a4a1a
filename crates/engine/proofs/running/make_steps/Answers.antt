use Rattle.std.proofs.Common.{◌≡◌, ℕ, ◌+◌, ◌≤◌, List, ◌++◌, length, length-append}
use Rattle.std.proofs.Common.{length-take, take, drop, refl, ◌∙◌, ap, subst, inr, arith}
use Rattle.std.proofs.lemmas.List.{length-drop}
use Rattle.machine.specs.declared.act.Step.{Step}
use Rattle.machine.specs.Runs.{StepsTaken}
use Rattle.engine.proofs.Runs.{heard_then, stopped_then, fetched, taken_portion}
use Rattle.engine.proofs.running.make_steps.Goals as goal

pub returns-then-not-make_portion : goal.returns-then-not-make_portion
returns-then-not-make_portion g c =
    let i = c.loop-from.invariant in
    let replied = c.if-not-make_portion.ensures in
    let steps = c.args.steps.now in
    let within : c.loop-from.from + c.min-count.result ≤ length steps = omega (arith, i.2, c.min-count.ensures) in (
      i.0 ++ replied.0,
      inr (stopped_then g.L.Listener.hears c.args.listener.now c.loop-from.listener c.make_portion.new.listener i.0
          replied.0 i.3 (replied.2 refl)),
      taken_portion g.D.Device c.steps_after_steps.ensures c.args.machine.now c.loop-from.machine
          c.make_portion.new.machine steps _ c.loop-from.from c.min-count.result i.0 replied.0 within (fetched steps
          c.loop-from.portion _ c.loop-from.from c.min-count.result within c.copy_from_slice.ensures.after)
          i.1 i.4 replied.3,
    )

pub loop-from-preserved : goal.loop-from-preserved
loop-from-preserved g c =
    let i = c.loop-from.invariant in
    let replied = c.if-not-make_portion.ensures in
    let steps = c.args.steps.now in
    let heard = replied.1 refl in
    let within : c.loop-from.from + c.min-count.result ≤ length steps = omega (arith, i.2, c.min-count.ensures) in
    let same =
    fetched steps c.loop-from.portion _ c.loop-from.from c.min-count.result within c.copy_from_slice.ensures.after in
    let count : length (i.0 ++ replied.0) ≡ c.loop-from.from + c.min-count.result =
    length-append i.0 replied.0
    ∙ omega (
      arith,
      i.1,
      heard.1,
      ap (λ (l : List Step). length l) same,
      length-take c.min-count.result (drop c.loop-from.from steps),
      length-drop c.loop-from.from steps,
      within,
    ) in
    let P : ℕ → Type 0 =
    λ n. StepsTaken g.D.Device c.args.machine.now (take n steps) (i.0 ++ replied.0) c.make_portion.new.machine in (
      i.0 ++ replied.0,
      count,
      within,
      heard_then g.L.Listener.hears c.args.listener.now c.loop-from.listener c.make_portion.new.listener i.0
          replied.0 i.3 heard.0,
      subst P count (taken_portion g.D.Device c.steps_after_steps.ensures c.args.machine.now c.loop-from.machine
          c.make_portion.new.machine steps _ c.loop-from.from c.min-count.result i.0 replied.0 within
          same i.1 i.4 replied.3),
    )
