use Rattle.std.proofs.Common.{subst, true, false}
use Rattle.std.specs.Prelude.{is_ok}
use Rattle.log_commits.specs.Tail.{IsTail}
use Rattle.log_commits.specs.Commit.{records_in}
use Rattle.log_commits.proofs.Left.{commit_refused}
use Rattle.log_commits.proofs.InRoom.{by_answer, room_commits, room_leaves, room_outside}
use Rattle.log_commits.proofs.tail.LogTail.commit.Goals as goal

pub returns-in_err-blocks-clause-leaves : goal.returns-in_err-blocks-clause-leaves
returns-in_err-blocks-clause-leaves g c = λ contents honest held.
    by_answer g.D.Device c.from_residual.result c.from_residual.ensures.0 (commit_refused g.D.Device c.args.self.now
    contents c.args.homes.now (records_in c.args.homes.now c.args.room.now) c.args.device.now
    (g.met.D.Device.since_now c.args.device.now) held)

pub returns-in_err-write_next-clause-outside : goal.returns-in_err-write_next-clause-outside
returns-in_err-write_next-clause-outside g c =
    room_outside g.D.Device c.args.self.now c.args.homes.now c.args.room.now
    (subst IsTail c.self.view_is c.self.invariant) c.in_ok-blocks.ensures.ok.1 c.args.device.now c.requires.long
    g.met.D.Device.seen_is_left (is_ok c.write_next.result) c.write_next.ensures.did

pub returns-in_err-write_next-clause-leaves : goal.returns-in_err-write_next-clause-leaves
returns-in_err-write_next-clause-leaves g c = λ contents honest held.
    by_answer g.D.Device c.from_residual-in_err-write_next.result c.from_residual-in_err-write_next.ensures.0
    (room_leaves g.D.Device c.args.self.now c.args.homes.now c.args.room.now
    (subst IsTail c.self.view_is c.self.invariant) c.in_ok-blocks.ensures.ok.1 c.args.device.now c.requires.long
    g.met.D.Device.seen_is_left contents honest held false c.in_err-write_next.ensures.did)

pub returns-clause-outside : goal.returns-clause-outside
returns-clause-outside g c =
    room_outside g.D.Device c.args.self.now c.args.homes.now c.args.room.now
    (subst IsTail c.self.view_is c.self.invariant) c.in_ok-blocks.ensures.ok.1 c.args.device.now c.requires.long
    g.met.D.Device.seen_is_left (is_ok c.write_next.result) c.write_next.ensures.did

pub returns-clause-leaves : goal.returns-clause-leaves
returns-clause-leaves g c = λ contents honest held.
    room_leaves g.D.Device c.args.self.now c.args.homes.now c.args.room.now
    (subst IsTail c.self.view_is c.self.invariant) c.in_ok-blocks.ensures.ok.1 c.args.device.now c.requires.long
    g.met.D.Device.seen_is_left contents honest held true c.in_ok-write_next.ensures.did

pub returns-clause-commits : goal.returns-clause-commits
returns-clause-commits g c = λ second contents chain honest held.
    room_commits g.D.Device c.args.self.now c.args.homes.now c.args.room.now
    (subst IsTail c.self.view_is c.self.invariant) c.in_ok-blocks.ensures.ok.1 c.args.device.now c.requires.long
    g.met.D.Device.seen_is_left second contents chain honest held c.in_ok-write_next.ensures.did
