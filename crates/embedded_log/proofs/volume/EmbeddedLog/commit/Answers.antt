use Rattle.std.proofs.Common.{◌∙◌, ap}
use Rattle.deferred_disk.specs.Deferred.{Deferred, carried_moment, recorded_calls}
use Rattle.embedded.specs.Embedded.{made_calls}
use Rattle.embedded_log.specs.State.{EmbeddedLogState}
use Rattle.embedded_log.proofs.Stepping.{commits_whole}
use Rattle.embedded_log.proofs.Serving.{serves_on, serves_marked}
use Rattle.embedded_log.proofs.volume.EmbeddedLog.commit.Goals as goal

pub invariant_of-self : goal.invariant_of-self
invariant_of-self g c = serves_on c.self.inside.files c.commit.new.files _ _ _ c.commit.ensures.leads c.self.invariant

pub returns-in-Err-clause-carried : goal.returns-in-Err-clause-carried
returns-in-Err-clause-carried g c = c.commit.ensures.leads.carried
    ∙ ap (λ (e : EmbeddedLogState). carried_moment e.files.pager.device) c.self.view_is

pub invariant_of-self-2 : goal.invariant_of-self-2
invariant_of-self-2 g c =
    let inside = c.self.inside in
    serves_marked inside.files c.commit.new.files inside.due inside.committed inside.acknowledged c.in-Ok.mark
    c.recorded-due.result c.made_calls-made.result c.confirmed-acknowledged.result
    (commits_whole inside.files c.in-Ok.mark c.commit.new.files c.in-Ok.ensures.commits)
    c.in-Ok.ensures.acknowledges c.commit.ensures.leads
    (c.recorded-due.ensures ∙ ap (λ (d : Deferred). recorded_calls d) c.device.ensures)
    (c.made_calls-made.ensures ∙ ap (λ (d : Deferred). made_calls d) c.device-2.ensures)
    c.confirmed-acknowledged.ensures c.self.invariant

pub returns-clause-carried : goal.returns-clause-carried
returns-clause-carried g c = c.commit.ensures.leads.carried
    ∙ ap (λ (e : EmbeddedLogState). carried_moment e.files.pager.device) c.self.view_is
