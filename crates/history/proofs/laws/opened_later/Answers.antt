use Rattle.history.proofs.laws.opened_later.Goals as goal
use Rattle.history.proofs.Later.{found_permanent, found_durable}

pub returns-clause-permanent : goal.returns-clause-permanent
returns-clause-permanent g c = λ files n first later honest only recovers is.
    found_permanent g.D.Device g.met.D.Device.seen_is_left c.opened_again.ensures.honest c.opened_again.ensures.left
    c.opened_as_recovered.ensures.files c.kinds_of_bytes.ensures.volume c.one_reading.ensures.files files n first
    later honest only recovers is

pub returns-clause-durable : goal.returns-clause-durable
returns-clause-durable g c = λ files history n first later honest back is.
    found_durable g.D.Device g.met.D.Device.seen_is_left c.opened_again.ensures.honest c.opened_again.ensures.left
    c.opened_as_recovered.ensures.files c.kinds_of_bytes.ensures.volume c.one_reading.ensures.files files history n
    first later honest back is
