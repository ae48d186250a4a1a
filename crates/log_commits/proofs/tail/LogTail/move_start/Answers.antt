use Rattle.std.proofs.Common.{◌≡◌, ◌*◌, ◌∷◌, subst, arith, true, false}
use Rattle.std.specs.Prelude.{is_ok, not}
use Rattle.device.specs.Work.{WriteAt, Sync}
use Rattle.log_codec.specs.declared.start.LogStart.{LogStart}
use Rattle.log_codec.specs.Start.{start_block, start_text}
use Rattle.log_commits.specs.Calls.{DidAll}
use Rattle.log_commits.specs.Tail.{IsTail}
use Rattle.log_commits.specs.Behind.{select_works}
use Rattle.log_commits.proofs.Moving.{is_failed, leaves_refused, move_leaves}
use Rattle.log_commits.proofs.tail.LogTail.move_start.Goals as goal

pub returns-in_err-judge_move-clause-leaves : goal.returns-in_err-judge_move-clause-leaves
returns-in_err-judge_move-clause-leaves g c = λ contents ds younger honest held are home.
    let t = c.args.self.now in
    let tail : IsTail t = subst IsTail c.self.view_is c.self.invariant in
    let failed : is_ok c.from_residual.result ≡ false =
    is_failed c.from_residual.result c.from_residual.ensures.0 in
    leaves_refused g.D.Device t contents c.args.oldest tail.log c.args.second ds younger g.met.D.Device.seen_is_left
    c.args.device.now (is_ok c.from_residual.result) failed (g.met.D.Device.since_now c.args.device.now) held

pub returns-in-Err-clause-leaves : goal.returns-in-Err-clause-leaves
returns-in-Err-clause-leaves g c = λ contents ds younger honest held are home.
    let t = c.args.self.now in
    let tail : IsTail t = subst IsTail c.self.view_is c.self.invariant in
    let R : LogStart → Type 0 = λ s. DidAll g.D.Device c.args.device.now
    (WriteAt (4096 * start_block (not c.args.second)) (start_text s) ∷ Sync ∷ select_works c.args.second) false
    c.move_to.new.device in
    move_leaves g.D.Device t contents c.args.oldest tail.log c.args.second ds younger g.met.D.Device.seen_is_left
    c.args.device.now honest held are c.judge_move.ensures.small home false
    (omega (arith, c.requires.long, tail.log.some_homes)) (subst R c.start_behind-start.ensures c.in-Err.ensures)

pub returns-clause-leaves : goal.returns-clause-leaves
returns-clause-leaves g c = λ contents ds younger honest held are home.
    let t = c.args.self.now in
    let tail : IsTail t = subst IsTail c.self.view_is c.self.invariant in
    let R : LogStart → Type 0 = λ s. DidAll g.D.Device c.args.device.now
    (WriteAt (4096 * start_block (not c.args.second)) (start_text s) ∷ Sync ∷ select_works c.args.second) true
    c.move_to.new.device in
    move_leaves g.D.Device t contents c.args.oldest tail.log c.args.second ds younger g.met.D.Device.seen_is_left
    c.args.device.now honest held are c.judge_move.ensures.small home true
    (omega (arith, c.requires.long, tail.log.some_homes)) (subst R c.start_behind-start.ensures c.in-Ok.ensures)
