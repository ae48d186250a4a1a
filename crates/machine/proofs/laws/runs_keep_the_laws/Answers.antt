use Rattle.machine.proofs.Names.{observed_first, observe_all}
use Rattle.machine.proofs.Since.{reads_then, since_then}
use Rattle.machine.proofs.Refinement.{follows}
use Rattle.machine.proofs.laws.runs_keep_the_laws.Goals as goal

pub returns-clause-headline : goal.returns-clause-headline
returns-clause-headline g c =
    λ files start last steps replies on. (follows g.D.Device files start steps replies last on).through

pub returns-clause-lawful : goal.returns-clause-lawful
returns-clause-lawful g c =
    λ files start last steps replies on. (follows g.D.Device files start steps replies last on).lawful

pub returns-clause-left : goal.returns-clause-left
returns-clause-left g c = λ files start last steps replies list on.
    reads_then g.D.Device files (observe_all (observed_first files start.state) steps replies) last
    (follows g.D.Device files start steps replies last on).refines list

pub returns-clause-since : goal.returns-clause-since
returns-clause-since g c = λ files start mid last earlier later observed more list on.
    let here = follows g.D.Device files start earlier observed mid on in
    since_then g.D.Device files g.met.D.Device.since_now
    (observe_all (observed_first files start.state) earlier observed) mid later more last list here.refines here.honest
