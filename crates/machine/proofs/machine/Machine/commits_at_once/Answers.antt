use Rattle.machine.proofs.Names.{observed_first, observe_all}
use Rattle.machine.proofs.machine.Machine.commits_at_once.Goals as goal
use Rattle.machine.proofs.Refinement.{follows}
use Rattle.machine.proofs.durable.ReadsBack.{refines_stops}

pub returns : goal.returns
returns g c = λ files start steps replies list on may.
    let now = c.args.self.now in
    let refines = (follows g.D.Device files start steps replies now on).refines in
    refines_stops files (observe_all (observed_first files start.state) steps replies) now.state
    (g.D.Device.seen now.device)
    (g.D.Device.may_leave now.device) refines list may
