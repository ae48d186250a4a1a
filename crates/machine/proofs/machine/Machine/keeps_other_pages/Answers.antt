use Rattle.machine.proofs.Names.{observed_first, observe_all}
use Rattle.machine.proofs.machine.Machine.keeps_other_pages.Goals as goal
use Rattle.machine.proofs.Refinement.{follows}
use Rattle.machine.proofs.durable.ReadsBack.{kept_page}

pub returns-clause-kept : goal.returns-clause-kept
returns-clause-kept g c = λ files start steps replies p number new mark owner left on in_file other may.
    let now = c.args.self.now in
    let refines = (follows g.D.Device files start steps replies now on).refines in
    kept_page files (observe_all (observed_first files start.state) steps replies) now.state
    (g.D.Device.seen now.device)
    (g.D.Device.may_leave now.device) refines p number new mark owner in_file other left may

pub returns-clause-framed : goal.returns-clause-framed
returns-clause-framed g c = λ files start steps replies frame owner on holds.
    let refines = (follows g.D.Device files start steps replies c.args.self.now on).refines in
    (refines.sound.memory.in_files frame owner holds, refines.latest.latest frame owner holds)
