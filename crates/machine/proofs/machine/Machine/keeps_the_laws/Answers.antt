use Rattle.machine.proofs.Names.{observed_first, observe_all}
use Rattle.machine.proofs.machine.Machine.keeps_the_laws.Goals as goal
use Rattle.machine.proofs.Refinement.{follows}
use Rattle.machine.proofs.durable.ReadsBack.{reads_now}
use Rattle.machine.proofs.refining.Lawful.{served_throughout}

pub returns-clause-headline : goal.returns-clause-headline
returns-clause-headline g c =
    λ files start steps replies on. (follows g.D.Device files start steps replies c.args.self.now on).through

pub returns-clause-lawful : goal.returns-clause-lawful
returns-clause-lawful g c =
    λ files start steps replies on. (follows g.D.Device files start steps replies c.args.self.now on).lawful

pub returns-clause-left : goal.returns-clause-left
returns-clause-left g c = λ files start steps replies list on.
    let now = c.args.self.now in
    let t = (follows g.D.Device files start steps replies now on).refines in
    reads_now files (observe_all (observed_first files start.state) steps replies) now.state
    (g.D.Device.seen now.device)
    (g.D.Device.may_leave now.device) t.sound t.files_are t.durable list

pub returns-clause-served : goal.returns-clause-served
returns-clause-served g c = λ files start steps replies on.
    let through = (follows g.D.Device files start steps replies c.args.self.now on).through in
    served_throughout g.D.Device files (observed_first files start.state) start steps replies c.args.self.now through
