use Rattle.embedded_log.specs.Steps.{WithoutRoom}
use Rattle.embedded_log.proofs.Leading.{leads_on}
use Rattle.embedded_log.proofs.Stepping.{acknowledges_on, stops_with_room}
use Rattle.embedded_log.proofs.steps.commit.Goals as goal

pub returns-in-Ok-clause-stopped : goal.returns-in-Ok-clause-stopped
returns-in-Ok-clause-stopped g c = stops_with_room c.args.files.now c.make_room.new.files c.commit_put.new.files
    c.commit_put.result c.in-Ok.ensures.steps c.in-Ok.ensures.room c.commit_put.ensures.stopped

pub returns-in-Ok-clause-acknowledges : goal.returns-in-Ok-clause-acknowledges
returns-in-Ok-clause-acknowledges g c = acknowledges_on c.args.files.now c.make_room.new.files c.commit_put.new.files
    c.commit_put.result c.make_room.ensures.leads c.commit_put.ensures.commits c.commit_put.ensures.acknowledges

pub returns-in-Ok-clause-leads : goal.returns-in-Ok-clause-leads
returns-in-Ok-clause-leads g c = leads_on c.args.files.now c.make_room.new.files c.commit_put.new.files
    c.make_room.ensures.leads c.commit_put.ensures.leads

pub returns-in-Err-clause-stopped : goal.returns-in-Err-clause-stopped
returns-in-Err-clause-stopped g c =
    let stop = c.in-Err.ensures.stopped in
    WithoutRoom stop.1.0 c.in-Err.e stop.0 c.make_room.new.files stop.1.1 stop.2 stop.3
