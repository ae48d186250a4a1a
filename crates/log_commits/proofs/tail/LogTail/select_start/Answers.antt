use Rattle.std.proofs.Common.{◌≡◌, ◌++◌, ℕ, List, sym, subst, arith, true, false}
use Rattle.std.specs.Prelude.{is_ok}
use Rattle.log_commits.specs.Tail.{IsTail}
use Rattle.log_commits.specs.Behind.{HoldsCommits}
use Rattle.log_commits.proofs.Moving.{is_failed, leaves_refused, select_leaves}
use Rattle.log_commits.proofs.tail.LogTail.select_start.Goals as goal

pub returns-in_err-judge_move-clause-leaves : goal.returns-in_err-judge_move-clause-leaves
returns-in_err-judge_move-clause-leaves g c = λ contents ds younger honest only ready.
    let t = c.args.self.now in
    let tail : IsTail t = subst IsTail c.self.view_is c.self.invariant in
    let Q : List ℕ → Type 0 = λ l. HoldsCommits c.args.second t contents (ds ++ younger) l in
    let failed : is_ok c.from_residual.result ≡ false =
    is_failed c.from_residual.result c.from_residual.ensures.0 in
    leaves_refused g.D.Device t contents c.args.oldest tail.log c.args.second ds younger g.met.D.Device.seen_is_left
    c.args.device.now (is_ok c.from_residual.result) failed (g.met.D.Device.since_now c.args.device.now)
    (λ x may. subst Q (sym (only x may)) ready.holds)

pub returns-in-Err-clause-leaves : goal.returns-in-Err-clause-leaves
returns-in-Err-clause-leaves g c = λ contents ds younger honest only ready.
    let t = c.args.self.now in
    let tail : IsTail t = subst IsTail c.self.view_is c.self.invariant in
    select_leaves g.D.Device t contents c.args.oldest tail.log c.args.second ds younger g.met.D.Device.seen_is_left
    c.args.device.now honest only ready false (omega (arith, c.requires.long, tail.log.some_homes)) c.in-Err.ensures

pub returns-clause-leaves : goal.returns-clause-leaves
returns-clause-leaves g c = λ contents ds younger honest only ready.
    let t = c.args.self.now in
    let tail : IsTail t = subst IsTail c.self.view_is c.self.invariant in
    select_leaves g.D.Device t contents c.args.oldest tail.log c.args.second ds younger g.met.D.Device.seen_is_left
    c.args.device.now honest only ready true (omega (arith, c.requires.long, tail.log.some_homes)) c.in-Ok.ensures
