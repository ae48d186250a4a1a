use Rattle.pager.proofs.Crashes.{keeps, left_durable, within_durable, reads_latest}
use Rattle.pager.proofs.laws.what_pagers_leave.Goals as goal

pub returns-clause-left : goal.returns-clause-left
returns-clause-left g c files history s come =
    left_durable g.D.Device files history s (keeps g.D.Device come)

pub returns-clause-within : goal.returns-clause-within
returns-clause-within g c files history s answer next come step =
    within_durable g.D.Device files history s (keeps g.D.Device come) answer next step

pub returns-clause-reads : goal.returns-clause-reads
returns-clause-reads g c files history s owner come whole allowed =
    reads_latest g.D.Device files history s (keeps g.D.Device come) whole owner allowed
