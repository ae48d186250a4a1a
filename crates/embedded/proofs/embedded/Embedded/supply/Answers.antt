use Rattle.embedded.proofs.Tended.{serves_tended, tended_supply}
use Rattle.embedded.proofs.embedded.Embedded.supply.Goals as goal

pub invariant_of-self : goal.invariant_of-self
invariant_of-self g c = serves_tended c.self.inside.pager c.tend.new.self _ _ _ c.tend.ensures.state
    (tended_supply _ _ _ _ c.tend.ensures.tended) c.self.invariant
