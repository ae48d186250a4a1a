use Rattle.embedded.proofs.Serving.{serves_length}
use Rattle.embedded.proofs.embedded.Embedded.set_length.Goals as goal

pub invariant_of-self : goal.invariant_of-self
invariant_of-self g c = serves_length c.self.inside.pager c.set_length.new.self _ _ _ c.args.file c.args.length
    c.set_length.result c.set_length.ensures.ok c.set_length.ensures.set c.set_length.ensures.unchanged
    c.set_length.ensures.read c.set_length.ensures.carried c.self.invariant
