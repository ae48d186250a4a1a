use Rattle.std.proofs.Common.{◌*◌, subst, true, false, arith}
use Rattle.std.specs.Prelude.{not}
use Rattle.device.specs.Did.{Did}
use Rattle.device.specs.Work.{WriteAt}
use Rattle.log_codec.specs.declared.start.LogStart.{LogStart}
use Rattle.log_codec.specs.Start.{start_block, start_text}
use Rattle.log_commits.specs.Tail.{IsTail}
use Rattle.log_commits.specs.Behind.{start_behind}
use Rattle.log_commits.proofs.Moving.{leaves_as_before, leaves_start, ready_by}
use Rattle.log_commits.proofs.tail.LogTail.write_start.Goals as goal

pub returns-in_err-judge_move-clause-leaves : goal.returns-in_err-judge_move-clause-leaves
returns-in_err-judge_move-clause-leaves g c = λ contents chain honest held.
    leaves_as_before g.D.Device c.args.self.now contents c.args.second chain c.args.device.now held
    (g.met.D.Device.since_now c.args.device.now)

pub returns-in-Ok-clause-leaves : goal.returns-in-Ok-clause-leaves
returns-in-Ok-clause-leaves g c = λ contents chain honest held.
    let t = c.args.self.now in
    let tail : IsTail t = subst IsTail c.self.view_is c.self.invariant in
    let R : LogStart → Type 0 = λ s. Did g.D.Device c.args.device.now
    (WriteAt (4096 * start_block (not c.args.second)) (start_text s)) true c.write_other.new.device in
    leaves_start g.D.Device t contents c.args.second chain c.args.device.now held true
    (start_behind t c.args.oldest) tail.log (subst R c.start_behind-start.ensures c.in-Ok.ensures)

pub returns-in-Err-clause-leaves : goal.returns-in-Err-clause-leaves
returns-in-Err-clause-leaves g c = λ contents chain honest held.
    let t = c.args.self.now in
    let tail : IsTail t = subst IsTail c.self.view_is c.self.invariant in
    let R : LogStart → Type 0 = λ s. Did g.D.Device c.args.device.now
    (WriteAt (4096 * start_block (not c.args.second)) (start_text s)) false c.write_other.new.device in
    leaves_start g.D.Device t contents c.args.second chain c.args.device.now held false
    (start_behind t c.args.oldest) tail.log (subst R c.start_behind-start.ensures c.in-Err.ensures)

pub returns-in-Ok-clause-ready : goal.returns-in-Ok-clause-ready
returns-in-Ok-clause-ready g c = λ contents ds younger honest held are written.
    let t = c.args.self.now in
    let tail : IsTail t = subst IsTail c.self.view_is c.self.invariant in
    let R : LogStart → Type 0 = λ s. Did g.D.Device c.args.device.now
    (WriteAt (4096 * start_block (not c.args.second)) (start_text s)) true c.write_other.new.device in
    ready_by g.D.Device t contents c.args.oldest tail.log c.args.second ds younger g.met.D.Device.seen_is_left
    c.args.device.now honest held are c.judge_move.ensures.small written
    (omega (arith, c.requires.long, tail.log.some_homes)) (subst R c.start_behind-start.ensures c.in-Ok.ensures)
