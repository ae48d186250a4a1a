use Rattle.std.proofs.Common.{map}
use Rattle.service.specs.Trace.{steps_of, replies_of}
use Rattle.driver.proofs.Runs.{runs_from}
use Rattle.driver.proofs.Programs.{run_or_full}
use Rattle.driver.proofs.running.gathered.Goals as goal

pub returns-in-Ok-clause-ran : goal.returns-in-Ok-clause-ran
returns-in-Ok-clause-ran g c = λ start is.
    let script = c.args.script.now in
    let found = c.in-Ok.ensures.gathered in
    let trace = c.in-Ok.trace.items in
    record {
      run = runs_from g.D.Device g.L.Origin.start found.first c.in-Ok.machine (steps_of trace) (replies_of trace)
          c.into_device.result c.ran_since_start.ensures c.into_device.ensures found.start_is found.legal start is;
      programs_run = run_or_full g.D.Device g.L.Origin.start g.L.Origin.capacity script.trace c.args.cpus.items
          c.in-Ok.machine trace script.steps.items
          (map (λ program. program.items) script.programs.items) found c.requires.ready start is;
    }
