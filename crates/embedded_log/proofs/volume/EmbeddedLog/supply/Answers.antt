use Rattle.embedded.proofs.Tended.{tended_supply}
use Rattle.embedded_log.proofs.Serving.{serves_tended}
use Rattle.embedded_log.proofs.volume.EmbeddedLog.supply.Goals as goal

pub invariant_of-self : goal.invariant_of-self
invariant_of-self g c = serves_tended c.self.inside.files c.tend.new.self _ _ _ c.tend.ensures.state
    (tended_supply _ _ _ _ c.tend.ensures.tended) c.self.invariant
