use Rattle.embedded_log.proofs.Calls.{leads_stopped_commit, runs_commit, stuck_commit}
use Rattle.embedded_log.proofs.Leading.{leads_nowhere, leads_of}
use Rattle.embedded_log.specs.inside.Leading.{HasAcknowledgedMark}
use Rattle.embedded_log.proofs.steps.commit_put.Goals as goal

pub returns-in-Some-clause-leads : goal.returns-in-Some-clause-leads
returns-in-Some-clause-leads g c = leads_nowhere c.args.files.now

pub returns-in-Ok-clause-acknowledges : goal.returns-in-Ok-clause-acknowledges
returns-in-Ok-clause-acknowledges g c = runs_commit c.args.files.now c.commit.new.self c.in-Ok.mark
    c.in-Ok.ensures.ok c.in-Ok.ensures.mark c.commit.ensures.whole c.commit.ensures.honest.0 c.in-Ok.ensures.nothing
    c.in-Ok.ensures.committed (λ well contents held. c.in-Ok.ensures.over contents well held)
    (λ well contents held. c.commit.ensures.leaves contents well held)

pub returns-in-Ok-clause-leads : goal.returns-in-Ok-clause-leads
returns-in-Ok-clause-leads g c =
    leads_of (HasAcknowledgedMark c.in-Ok.mark) c.args.files.now c.commit.new.self
    (returns-in-Ok-clause-acknowledges g c)
    (stuck_commit c.args.files.now c.commit.new.self c.in-Ok.ensures.nothing c.in-Ok.ensures.committed)

pub returns-in-Err-clause-leads : goal.returns-in-Err-clause-leads
returns-in-Err-clause-leads g c = leads_stopped_commit c.args.files.now c.commit.new.self c.in-Err.why
    c.in-Err.ensures.kept (λ other well contents held. c.in-Err.ensures.stays contents well held other)
    c.in-Err.ensures.failed c.commit.ensures.whole c.commit.ensures.honest.0
    (λ well contents held. c.commit.ensures.leaves contents well held)
