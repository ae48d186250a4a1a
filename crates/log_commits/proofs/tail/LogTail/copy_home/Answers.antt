use Rattle.std.proofs.Common.{ℕ, List, ◌+◌, ◌*◌, ◌≤◌, sym, subst, refl, arith, length, true, false}
use Rattle.volume_codec.specs.Layout.{block_at}
use Rattle.device.proofs.Public.{done_seen}
use Rattle.log_commits.specs.Tail.{IsTail}
use Rattle.log_commits.specs.Behind.{MayCopyHome, HasHomes}
use Rattle.log_commits.proofs.Kept.{copied_homes}
use Rattle.log_commits.proofs.Moving.{leaves_as_before, leaves_copy}
use Rattle.log_commits.proofs.tail.LogTail.copy_home.Goals as goal

pub returns-in_err-judge_copy-clause-leaves : goal.returns-in_err-judge_copy-clause-leaves
returns-in_err-judge_copy-clause-leaves g c = λ second contents chain honest logged held.
    leaves_as_before g.D.Device c.args.self.now contents second chain c.args.device.now held
    (g.met.D.Device.since_now c.args.device.now)

pub returns-in-Ok-clause-copied : goal.returns-in-Ok-clause-copied
returns-in-Ok-clause-copied g c = λ honest.
    let t = c.args.self.now in
    let may : MayCopyHome t c.args.block c.args.home = c.in_ok-judge_copy.ensures.ok in
    let tail : IsTail t = subst IsTail c.self.view_is c.self.invariant in
    let seen = g.D.Device.seen c.args.device.now in
    let from : 4096 * c.args.block + 4096 ≤ length seen =
    omega (arith, may.most, tail.log.some_homes, c.requires.long) in
    let to : 4096 * c.args.home + 4096 ≤ length seen = omega (arith, may.is_home.high, c.requires.long) in
    let Q : List ℕ → Type 0 = λ l. HasHomes c.args.home (block_at seen c.args.block) seen l in
    subst Q (sym (done_seen c.in-Ok.ensures honest refl)) (copied_homes seen c.args.block c.args.home from to)

pub returns-in-Ok-clause-leaves : goal.returns-in-Ok-clause-leaves
returns-in-Ok-clause-leaves g c = λ second contents chain honest logged held.
    let t = c.args.self.now in
    let may : MayCopyHome t c.args.block c.args.home = c.in_ok-judge_copy.ensures.ok in
    let tail : IsTail t = subst IsTail c.self.view_is c.self.invariant in
    leaves_copy g.D.Device t contents second chain c.args.device.now held true c.args.block c.args.home tail.log
    may.is_home.low logged c.in-Ok.ensures

pub returns-in-Err-clause-leaves : goal.returns-in-Err-clause-leaves
returns-in-Err-clause-leaves g c = λ second contents chain honest logged held.
    let t = c.args.self.now in
    let may : MayCopyHome t c.args.block c.args.home = c.in_ok-judge_copy.ensures.ok in
    let tail : IsTail t = subst IsTail c.self.view_is c.self.invariant in
    leaves_copy g.D.Device t contents second chain c.args.device.now held false c.args.block c.args.home tail.log
    may.is_home.low logged c.in-Err.ensures
