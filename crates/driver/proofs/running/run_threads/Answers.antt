use Rattle.std.proofs.Common.{◌≡◌, ◌<◌, ◌∙◌, map, length, get_or, subst, arith}
use Rattle.std.proofs.lemmas.Option.{slice_get_within, slice_get-get_or, get_or_from_slice_get}
use Rattle.std.specs.Prelude.{slice_get}
use Rattle.service.specs.Gathering.{CpuState}
use Rattle.driver.specs.Programs.{RunsProgram}
use Rattle.driver.proofs.Programs.{each_ran}
use Rattle.driver.proofs.running.run_threads.Goals as goal

pub returns : goal.returns
returns g c =
    let old = c.args.cpus.now in
    let new = c.for_each_mut.new.s in
    let programs = map (λ program. program.items) c.args.programs.now in
    each_ran c.args.steps.now programs old new c.requires (λ i cpu at.
    let within : i < length old = omega (arith, slice_get_within new i cpu at, c.for_each_mut.auto.s) in
    let changed = (c.for_each_mut.ensures i cpu within).1 in
    let before : CpuState = get_or old i cpu in
    let left : CpuState = changed.after_call.now in
    let is : left ≡ cpu = changed.left ∙ get_or_from_slice_get new i cpu cpu at in
    let Runs : CpuState → CpuState → Type 0 = λ from to. RunsProgram (slice_get programs i) from to in
    let went : Runs before left = subst (λ (c : CpuState). Runs c left) changed.argument_is changed.call in
    (before, slice_get-get_or old i cpu within, subst (λ (c : CpuState). Runs before c) is went))
