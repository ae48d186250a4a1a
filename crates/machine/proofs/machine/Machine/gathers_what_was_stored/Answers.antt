use Rattle.machine.proofs.Names.{observed_first, observe_all}
use Rattle.machine.proofs.machine.Machine.gathers_what_was_stored.Goals as goal
use Rattle.machine.proofs.Refinement.{follows}
use Rattle.machine.proofs.durable.Histories.{gathers_touched, gathers_nothing}

pub returns-clause-pages : goal.returns-clause-pages
returns-clause-pages g c = λ files start steps replies p number new mark owner on.
    let now = c.args.self.now in
    gathers_touched (observe_all (observed_first files start.state) steps replies) now.state p number new mark
    (follows g.D.Device files start steps replies now on).refines.touched owner

pub returns-clause-nothing : goal.returns-clause-nothing
returns-clause-nothing g c = λ files start steps replies p number new mark on.
    let now = c.args.self.now in
    let refines = (follows g.D.Device files start steps replies now on).refines in
    gathers_nothing (observe_all (observed_first files start.state) steps replies) now.state p number
    new mark refines.touched
    refines.files_are.resized
