use Rattle.embedded_log.proofs.Calls.{leads_step, leads_stopped_step}
use Rattle.embedded_log.proofs.Leading.{leads_nowhere}
use Rattle.embedded_log.proofs.steps.make_step.Goals as goal

pub returns-in-Some-clause-leads : goal.returns-in-Some-clause-leads
returns-in-Some-clause-leads g c = leads_nowhere c.args.files.now

pub returns-in-Ok-clause-leads : goal.returns-in-Ok-clause-leads
returns-in-Ok-clause-leads g c = leads_step c.args.files.now c.step.new.self c.in-Ok.progress c.in-Ok.ensures.stepped
    c.step.ensures.honest.0 (λ well contents held. c.in-Ok.ensures.over contents well held)
    (λ well contents held. c.step.ensures.leaves contents well held)

pub returns-in-Err-clause-leads : goal.returns-in-Err-clause-leads
returns-in-Err-clause-leads g c = leads_stopped_step c.args.files.now c.step.new.self c.in-Err.why
    c.in-Err.ensures.unchanged c.in-Err.ensures.failed c.step.ensures.honest.0
    (λ well contents held. c.step.ensures.leaves contents well held)
