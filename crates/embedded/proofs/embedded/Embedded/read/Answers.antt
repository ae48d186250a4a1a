use Rattle.embedded.proofs.Serving.{serves_read}
use Rattle.embedded.proofs.embedded.Embedded.read.Goals as goal

pub invariant_of-self : goal.invariant_of-self
invariant_of-self g c = serves_read c.self.inside.pager c.read.new.self _ _ _ c.read.ensures.state c.read.ensures.read
    c.read.ensures.carried c.self.invariant

pub invariant_of-self-2 : goal.invariant_of-self-2
invariant_of-self-2 g c = serves_read c.self.inside.pager c.read.new.self _ _ _ c.read.ensures.state
    c.read.ensures.read c.read.ensures.carried c.self.invariant
