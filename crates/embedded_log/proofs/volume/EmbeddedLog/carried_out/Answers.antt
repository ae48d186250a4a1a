use Rattle.std.proofs.Common.{ap, ◌∙◌}
use Rattle.deferred_disk.specs.Deferred.{Deferred}
use Rattle.embedded.specs.Embedded.{made_calls}
use Rattle.embedded.proofs.Tended.{tended_call}
use Rattle.embedded_log.proofs.Serving.{serves_noted, serves_tended}
use Rattle.embedded_log.proofs.volume.EmbeddedLog.carried_out.Goals as goal

pub invariant_of-self : goal.invariant_of-self
invariant_of-self g c =
    let inside = c.self.inside in
    let files = c.tend.new.self in
    serves_noted files inside.due c.made_calls-made.result inside.committed inside.acknowledged
    c.confirmed-acknowledged.result (c.made_calls-made.ensures ∙ ap (λ (d : Deferred). made_calls d) c.device.ensures)
    c.confirmed-acknowledged.ensures
    (serves_tended inside.files files inside.committed inside.due inside.acknowledged c.tend.ensures.state
    (tended_call inside.files.pager.device files.pager.device c.tend.ensures.tended) c.self.invariant)
