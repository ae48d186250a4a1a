use Rattle.std.proofs.Common.{ℕ, ◌≡◌, ◌∙◌, ◌++◌, List, length, map, take, drop, sym, ap, subst, arith}
use Rattle.std.proofs.Math.Seq.{take-append_seam}
use Rattle.service.specs.Gathering.{CpuState}
use Rattle.driver.specs.inside.Begun.{AreReady, HasRanFrom}
use Rattle.machine.specs.State.{Whole}
use Rattle.driver.specs.declared.running.Ran.{Ran}
use Rattle.driver.proofs.Runs.{of_the_one}
use Rattle.driver.proofs.running.serve.Goals as goal

pub returns-in-Ok-clause-ran : goal.returns-in-Ok-clause-ran
returns-in-Ok-clause-ran g c =
    let script = c.args.script.now in
    let P : Whole g.row.D.Denot → Ran g.row.D.Denot → Type 0 =
    λ start ran. HasRanFrom g.D.Device start script.steps.items (map (λ program. program.items) script.programs.items)
    script.trace ran in
    of_the_one c.gathered.result g.L.Origin.start P c.args.machine c.requires.origin.0 c.gathered.ensures.ran

pub gathered-requires-clause-ready : goal.gathered-requires-clause-ready
gathered-requires-clause-ready g c =
    let script = c.args.script.now in
    let old = c.in-Ok.cpus.items in
    let new = c.carried_out-ran_out.new.cpus in
    let rest = drop (length new) old in
    let same : c.in-Ok.cpus.len ≡ length new =
    grind (arith, c.carried_out-ran_out.auto.cpus, c.deref_mut.ensures.len, c.deref_mut.ensures.value) in
    let all : take c.in-Ok.cpus.len (new ++ rest) ≡ new =
    ap (λ (n : ℕ). take n (new ++ rest)) same ∙ take-append_seam new rest in
    subst (λ (cpus : List CpuState). AreReady script.steps.items (map (λ program. program.items) script.programs.items)
    script.trace cpus)
    (sym all) c.carried_out-ran_out.ensures
