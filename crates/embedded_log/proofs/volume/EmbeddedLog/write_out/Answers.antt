use Rattle.std.proofs.Common.{◌∙◌, ap}
use Rattle.deferred_disk.specs.Deferred.{carried_moment}
use Rattle.embedded_log.specs.State.{EmbeddedLogState}
use Rattle.embedded_log.proofs.Serving.{serves_on}
use Rattle.embedded_log.proofs.volume.EmbeddedLog.write_out.Goals as goal

pub invariant_of-self : goal.invariant_of-self
invariant_of-self g c = serves_on c.self.inside.files c.write_out.new.files _ _ _ c.write_out.ensures.leads
    c.self.invariant

pub returns-clause-carried : goal.returns-clause-carried
returns-clause-carried g c = c.write_out.ensures.leads.carried
    ∙ ap (λ (e : EmbeddedLogState). carried_moment e.files.pager.device) c.self.view_is
