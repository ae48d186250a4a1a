use Rattle.std.proofs.Common.{ℕ, List, ◌+◌, ◌*◌, ◌≤◌, sym, subst, refl, arith, length, true, false}
use Rattle.device.specs.Did.{Did}
use Rattle.device.specs.Work.{WriteAt}
use Rattle.device.proofs.Public.{done_seen}
use Rattle.log_commits.specs.Tail.{IsTail}
use Rattle.log_commits.specs.Behind.{MayWriteHome, HasHomes}
use Rattle.log_commits.proofs.Kept.{has_homes}
use Rattle.log_commits.proofs.Moving.{leaves_as_before, leaves_home}
use Rattle.log_commits.proofs.tail.LogTail.write_home.Goals as goal

pub returns-in_err-judge_home-clause-leaves : goal.returns-in_err-judge_home-clause-leaves
returns-in_err-judge_home-clause-leaves g c = λ second contents chain honest logged held.
    leaves_as_before g.D.Device c.args.self.now contents second chain c.args.device.now held
    (g.met.D.Device.since_now c.args.device.now)

pub returns-in-Ok-clause-written : goal.returns-in-Ok-clause-written
returns-in-Ok-clause-written g c = λ honest.
    let t = c.args.self.now in
    let bytes = c.args.bytes.now in
    let may : MayWriteHome t c.args.home (length bytes) = c.in_ok-judge_home.ensures.ok in
    let seen = g.D.Device.seen c.args.device.now in
    let fits : 4096 * c.args.home + length bytes ≤ length seen = omega (arith, may.high, c.requires.long) in
    let Q : ℕ → Type 0 = λ n.
    Did g.D.Device c.args.device.now (WriteAt (4096 * n) bytes) true c.write_at.new.device in
    let did = subst Q c.from.ensures c.in-Ok.ensures in
    let P : List ℕ → Type 0 = λ l. HasHomes c.args.home bytes seen l in
    subst P (sym (done_seen did honest refl)) (has_homes seen bytes c.args.home fits may.blocks)

pub returns-in-Ok-clause-leaves : goal.returns-in-Ok-clause-leaves
returns-in-Ok-clause-leaves g c = λ second contents chain honest logged held.
    let t = c.args.self.now in
    let bytes = c.args.bytes.now in
    let may : MayWriteHome t c.args.home (length bytes) = c.in_ok-judge_home.ensures.ok in
    let tail : IsTail t = subst IsTail c.self.view_is c.self.invariant in
    let Q : ℕ → Type 0 = λ n.
    Did g.D.Device c.args.device.now (WriteAt (4096 * n) bytes) true c.write_at.new.device in
    leaves_home g.D.Device t contents second chain c.args.device.now held true c.args.home bytes tail.log may.low
    logged (subst Q c.from.ensures c.in-Ok.ensures)

pub returns-in-Err-clause-leaves : goal.returns-in-Err-clause-leaves
returns-in-Err-clause-leaves g c = λ second contents chain honest logged held.
    let t = c.args.self.now in
    let bytes = c.args.bytes.now in
    let may : MayWriteHome t c.args.home (length bytes) = c.in_ok-judge_home.ensures.ok in
    let tail : IsTail t = subst IsTail c.self.view_is c.self.invariant in
    let Q : ℕ → Type 0 = λ n.
    Did g.D.Device c.args.device.now (WriteAt (4096 * n) bytes) false c.write_at.new.device in
    leaves_home g.D.Device t contents second chain c.args.device.now held false c.args.home bytes tail.log may.low
    logged (subst Q c.from.ensures c.in-Err.ensures)
