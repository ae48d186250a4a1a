use Rattle.machine.proofs.machine.Machine.protects_frozen_pages.Goals as goal
use Rattle.machine.proofs.Refinement.{follows}
use Rattle.machine.proofs.durable.ReadsBack.{frozen_protected}

pub returns : goal.returns
returns g c = λ files start steps replies on. frozen_protected c.args.self.now.state
    (follows g.D.Device files start steps replies c.args.self.now on).refines.sound
