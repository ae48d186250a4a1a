use Rattle.log_room.proofs.Leading.{busy_stepped, commits_then}
use Rattle.log_room.proofs.room.commit_in_rounds.Goals as goal

pub returns-then-not-is_busy-2-clause-commits : goal.returns-then-not-is_busy-2-clause-commits
returns-then-not-is_busy-2-clause-commits g c =
    let first = c.commit_put-first in
    let second = c.commit_after_round-second in
    commits_then g.D.Device c.args.pager.now first.new.pager
    (busy_stepped (c.is_busy.ensures.0 c.if-not-is_busy.false) first.ensures.commits) second.result second.new.pager
    second.ensures

pub returns-clause-commits : goal.returns-clause-commits
returns-clause-commits g c =
    let first = c.commit_put-first in
    let second = c.commit_after_round-second in
    let third = c.commit_after_round in
    commits_then g.D.Device c.args.pager.now first.new.pager
    (busy_stepped (c.is_busy.ensures.0 c.if-not-is_busy.false) first.ensures.commits) third.result third.new.pager
    (commits_then g.D.Device first.new.pager second.new.pager
    (busy_stepped (c.is_busy-2.ensures.0 c.if-not-is_busy-2.false) second.ensures) third.result third.new.pager
    third.ensures)
