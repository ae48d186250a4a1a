use Rattle.embedded_log.proofs.Serving.{serves_put}
use Rattle.embedded_log.proofs.volume.EmbeddedLog.put.Goals as goal

pub invariant_of-self : goal.invariant_of-self
invariant_of-self g c = serves_put c.self.inside.files c.put.new.self c.self.inside.due c.self.inside.committed
    c.self.inside.acknowledged c.args.page c.args.bytes.now c.put.result c.told-bytes c.put.ensures.ok c.put.ensures.put
    c.put.ensures.unchanged c.put.ensures.over c.self.invariant
