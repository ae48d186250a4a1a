use Rattle.log_room.proofs.Leading.{as_stepped, commits_then}
use Rattle.log_room.proofs.room.commit_after_round.Goals as goal

pub returns-in-Ok : goal.returns-in-Ok
returns-in-Ok g c =
    commits_then g.D.Device c.args.pager.now c.make_round.new.pager (as_stepped c.in-Ok.is c.make_round.ensures)
    c.commit_put.result c.commit_put.new.pager c.commit_put.ensures.commits
