use Rattle.log_histories.proofs.Crashes.{contents_now, keeps}
use Rattle.log_histories.proofs.Runs.{come_on, gone_on, left_since, left_in_run_commit, left_in_run_step, told_run}
use Rattle.log_histories.proofs.laws.what_log_runs_leave.Goals as goal

pub returns-clause-come : goal.returns-clause-come
returns-clause-come g c files history events s t come gone = come_on g.D.Device files history s come gone

pub returns-clause-on : goal.returns-clause-on
returns-clause-on g c start mid last events more first next = gone_on g.D.Device start events mid first next

pub returns-clause-since : goal.returns-clause-since
returns-clause-since g c files history events s t come gone =
    let now = g.met.D.Device.since_now in
    left_since g.D.Device now files history s (contents_now g.D.Device now files come)
    (keeps g.D.Device now files come) gone

pub returns-clause-within_commit : goal.returns-clause-within_commit
returns-clause-within_commit g c files history events s t done next come gone commit =
    let now = g.met.D.Device.since_now in
    left_in_run_commit g.D.Device now files history s (contents_now g.D.Device now files come)
    (keeps g.D.Device now files come) gone done next commit

pub returns-clause-within_step : goal.returns-clause-within_step
returns-clause-within_step g c files history events s t done next come gone step =
    let now = g.met.D.Device.since_now in
    left_in_run_step g.D.Device now files history s (contents_now g.D.Device now files come)
    (keeps g.D.Device now files come) gone done next step

pub returns-clause-by_byte : goal.returns-clause-by_byte
returns-clause-by_byte g c files history events s t come byte gone =
    let now = g.met.D.Device.since_now in
    told_run g.D.Device now files history s (contents_now g.D.Device now files come)
    (keeps g.D.Device now files come) gone byte
