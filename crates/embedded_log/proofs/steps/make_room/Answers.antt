use Rattle.embedded_log.proofs.Leading.{leads_on}
use Rattle.embedded_log.proofs.Stepping.{makes_on, stops_on}
use Rattle.embedded_log.proofs.steps.make_room.Goals as goal

pub returns-in-Ok-make_round-clause-steps : goal.returns-in-Ok-make_round-clause-steps
returns-in-Ok-make_round-clause-steps g c = makes_on c.args.files.now c.make_round.new.files c.make_round-2.new.files
    c.in-Ok.ensures.steps c.in-Ok-make_round.ensures.steps

pub returns-in-Ok-make_round-clause-leads : goal.returns-in-Ok-make_round-clause-leads
returns-in-Ok-make_round-clause-leads g c = leads_on c.args.files.now c.make_round.new.files c.make_round-2.new.files
    c.make_round.ensures.leads c.make_round-2.ensures.leads

pub returns-in-Err-make_round-clause-stopped : goal.returns-in-Err-make_round-clause-stopped
returns-in-Err-make_round-clause-stopped g c = stops_on c.args.files.now c.make_round.new.files c.in-Err-make_round.e
    c.make_round-2.new.files c.in-Ok.ensures.steps c.in-Err-make_round.ensures.stopped

pub returns-in-Err-make_round-clause-leads : goal.returns-in-Err-make_round-clause-leads
returns-in-Err-make_round-clause-leads g c = leads_on c.args.files.now c.make_round.new.files c.make_round-2.new.files
    c.make_round.ensures.leads c.make_round-2.ensures.leads
