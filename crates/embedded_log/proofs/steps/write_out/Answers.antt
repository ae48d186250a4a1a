use Rattle.embedded_log.specs.Steps.{NoLogStep, ThenLogStep}
use Rattle.embedded_log.proofs.Leading.{leads_nowhere, leads_on}
use Rattle.embedded_log.proofs.Stepping.{left_not_idle}
use Rattle.embedded_log.proofs.steps.write_out.Goals as goal

pub loop-init : goal.loop-init
loop-init g c = (NoLogStep, leads_nowhere c.args.files.now)

pub returns-in-Err-clause-leads : goal.returns-in-Err-clause-leads
returns-in-Err-clause-leads g c = leads_on c.args.files.now c.loop.files c.make_step.new.files c.loop.invariant.1
    c.make_step.ensures.leads

pub loop-preserved : goal.loop-preserved
loop-preserved g c =
    let old = c.loop.files in
    let new = c.make_step.new.files in
    let step = c.in-Ok.ensures.stepped in (
      ThenLogStep c.loop.counter old new c.in-Ok.field-0 tt c.in-Ok.ensures.known
          (left_not_idle old new c.in-Ok.field-0 c.is_idle.result c.is_idle.ensures c.if-is_idle.false
          (c.rounds_end.ensures.idle old.pager.store new.pager.store) step) step c.loop.invariant.0,
      leads_on c.args.files.now old new c.loop.invariant.1 c.make_step.ensures.leads,
    )
