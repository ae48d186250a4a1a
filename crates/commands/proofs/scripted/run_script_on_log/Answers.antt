use Rattle.machine_log.specs.Runs.{HasRunOnLog}
use Rattle.commands.proofs.Printing.{printed_run}
use Rattle.commands.proofs.scripted.run_script_on_log.Goals as goal

pub returns-clause-ran : goal.returns-clause-ran
returns-clause-ran g c =
    printed_run g.W.Write.contents c.args.printer.now c.run.new.listener _ c.args.script.now.steps.items c.run.result
    (HasRunOnLog g.D.Device c.args.device c.args.script.now.shape) c.deref.ensures.value c.run.ensures.ran
