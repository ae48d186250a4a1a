use Rattle.std.proofs.Common.{◌++◌, true, false, subst}
use Rattle.log_commits.specs.Tail.{IsTail}
use Rattle.log_commits.specs.Commit.{records_in}
use Rattle.log_commits.proofs.InRoom.{by_answer, room_selected, room_selecting}
use Rattle.log_commits.proofs.Selected.{selecting_refused}
use Rattle.log_commits.proofs.tail.LogTail.commit_selecting.Goals as goal

pub returns-in_err-blocks-clause-leaves : goal.returns-in_err-blocks-clause-leaves
returns-in_err-blocks-clause-leaves g c = λ contents ds younger honest held ready sure.
    by_answer g.D.Device c.from_residual.result c.from_residual.ensures.0 (selecting_refused g.D.Device
    c.args.self.now contents c.args.homes.now (records_in c.args.homes.now c.args.room.now) c.args.oldest
    c.args.second (ds ++ younger) c.args.device.now
    (g.met.D.Device.since_now c.args.device.now) held)

pub returns-in-Err-clause-leaves : goal.returns-in-Err-clause-leaves
returns-in-Err-clause-leaves g c = λ contents ds younger honest held ready sure.
    selecting_refused g.D.Device c.args.self.now contents c.args.homes.now
    (records_in c.args.homes.now c.args.room.now) c.args.oldest c.args.second (ds ++ younger) c.args.device.now
    (g.met.D.Device.since_now c.args.device.now) held

pub returns-in_err-write_next-clause-leaves : goal.returns-in_err-write_next-clause-leaves
returns-in_err-write_next-clause-leaves g c = λ contents ds younger honest held ready sure.
    by_answer g.D.Device c.from_residual-in_err-write_next.result c.from_residual-in_err-write_next.ensures.0
    (room_selecting g.D.Device c.args.self.now c.args.homes.now c.args.room.now
    (subst IsTail c.self.view_is c.self.invariant) c.in_ok-blocks.ensures.ok.1 c.args.device.now c.requires.long
    g.met.D.Device.seen_is_left contents c.args.oldest c.in-Ok.ensures.ok c.args.second ds younger honest held ready
    sure false c.in_err-write_next.ensures.did)

pub returns-clause-leaves : goal.returns-clause-leaves
returns-clause-leaves g c = λ contents ds younger honest held ready sure.
    room_selecting g.D.Device c.args.self.now c.args.homes.now c.args.room.now
    (subst IsTail c.self.view_is c.self.invariant) c.in_ok-blocks.ensures.ok.1 c.args.device.now c.requires.long
    g.met.D.Device.seen_is_left contents c.args.oldest c.in-Ok.ensures.ok c.args.second ds younger honest held ready
    sure true c.in_ok-write_next.ensures.did

pub returns-clause-commits : goal.returns-clause-commits
returns-clause-commits g c = λ contents ds younger honest held ready sure.
    room_selected g.D.Device c.args.self.now c.args.homes.now c.args.room.now
    (subst IsTail c.self.view_is c.self.invariant) c.in_ok-blocks.ensures.ok.1 c.args.device.now c.requires.long
    g.met.D.Device.seen_is_left contents c.args.oldest c.in-Ok.ensures.ok c.args.second ds younger honest held ready
    sure c.in_ok-write_next.ensures.did
