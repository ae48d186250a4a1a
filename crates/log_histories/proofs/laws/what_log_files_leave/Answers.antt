use Rattle.log_commits.specs.Told.{IsNone}
use Rattle.log_histories.specs.Histories.{IsCommitPut}
use Rattle.log_histories.proofs.Crashes.{contents_now, keeps, left_durable, within_commit, within_step, reads_latest}
use Rattle.log_histories.proofs.Crashes.{told_by_byte}
use Rattle.log_histories.proofs.laws.what_log_files_leave.Goals as goal

pub returns-clause-left : goal.returns-clause-left
returns-clause-left g c files history s come =
    let now = g.met.D.Device.since_now in
    left_durable g.D.Device files history s (contents_now g.D.Device now files come) (keeps g.D.Device now files come)

pub returns-clause-commit : goal.returns-clause-commit
returns-clause-commit g c files history s done next come commit =
    let now = g.met.D.Device.since_now in
    within_commit g.D.Device files history s (contents_now g.D.Device now files come)
    (keeps g.D.Device now files come) now done next commit

pub returns-clause-step : goal.returns-clause-step
returns-clause-step g c files history s done next come step =
    let now = g.met.D.Device.since_now in
    within_step g.D.Device files history s (contents_now g.D.Device now files come)
    (keeps g.D.Device now files come) now done next step

pub returns-clause-by_byte : goal.returns-clause-by_byte
returns-clause-by_byte g c files history s come byte bytes =
    let now = g.met.D.Device.since_now in
    let told = told_by_byte g.D.Device files history s (contents_now g.D.Device now files come)
    (keeps g.D.Device now files come) byte in
    (told IsNone bytes, told (IsCommitPut s) bytes)

pub returns-clause-over : goal.returns-clause-over
returns-clause-over g c files history s come =
    let now = g.met.D.Device.since_now in
    let k = keeps g.D.Device now files come in (contents_now g.D.Device now files come, k.over)

pub returns-clause-reads : goal.returns-clause-reads
returns-clause-reads g c files history s contents owner come honest over allowed =
    let now = g.met.D.Device.since_now in
    reads_latest g.D.Device files history s (contents_now g.D.Device now files come)
    (keeps g.D.Device now files come) c.one_held.ensures contents
    (g.met.D.Device.seen_is_left s.pager.device honest) over owner allowed
