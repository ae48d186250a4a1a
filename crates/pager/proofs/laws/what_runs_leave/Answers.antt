use Rattle.pager.proofs.Runs.{gone_on, left_since, left_within}
use Rattle.pager.proofs.laws.what_runs_leave.Goals as goal

pub returns-clause-on : goal.returns-clause-on
returns-clause-on g c start mid last events more first next = gone_on g.D.Device start events mid first next

pub returns-clause-since : goal.returns-clause-since
returns-clause-since g c files history events s t come gone =
    left_since g.D.Device g.met.D.Device.since_now files history s come gone

pub returns-clause-within : goal.returns-clause-within
returns-clause-within g c files history events s t answer next come gone step =
    left_within g.D.Device g.met.D.Device.since_now files history s come gone answer next step
