use Rattle.std.proofs.Common.{map}
use Rattle.driver.proofs.Programs.{booted_with, set_up_so}
use Rattle.driver.proofs.Runs.{refused_so}
use Rattle.driver.proofs.running.run_programs.Goals as goal

pub returns-in-Ok-named-clause-ran : goal.returns-in-Ok-named-clause-ran
returns-in-Ok-named-clause-ran g c =
    c.in-Ok-named.ensures.ran.run c.args.device c.args.script.now.shape c.in-Ok.ensures.started

pub returns-in-Err-named-clause-refused : goal.returns-in-Err-named-clause-refused
returns-in-Err-named-clause-refused g c =
    refused_so g.D.Device c.args.device c.args.script.now.shape c.args.script.now.trace c.in-Ok.machine
    c.in-Err-named.refused c.in-Ok.ensures.started c.in-Err-named.ensures.refused

pub returns-in-Ok-named-clause-programs : goal.returns-in-Ok-named-clause-programs
returns-in-Ok-named-clause-programs g c =
    let script = c.args.script.now in
    let trace = c.in-Ok-named.ran.trace.items in
    booted_with g.D.Device c.args.device script.shape c.in-Ok.machine script.steps.items
    (map (λ program. program.items) script.programs.items) script.trace trace c.in-Ok.ensures.started
    c.in-Ok-named.ensures.ran.programs_run

pub returns-in-Ok-named-clause-set_up : goal.returns-in-Ok-named-clause-set_up
returns-in-Ok-named-clause-set_up g c =
    let script = c.args.script.now in
    let programs = map (λ program. program.items) script.programs.items in
    let trace = c.in-Ok-named.ran.trace.items in
    set_up_so script.shape.cpus script.steps.items programs script.trace trace
    (booted_with g.D.Device c.args.device script.shape c.in-Ok.machine script.steps.items programs script.trace trace
    c.in-Ok.ensures.started c.in-Ok-named.ensures.ran.programs_run)
