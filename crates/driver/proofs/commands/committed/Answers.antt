use Rattle.std.proofs.Common.{Bool, Ok, subst}
use Rattle.std.proofs.lemmas.Result.{err_from_is_err_and}
use Rattle.driver.specs.Programs.{IsUpkeep}
use Rattle.driver.specs.inside.Working.{IsWritten}
use Rattle.driver.proofs.Calls.{more_calls}
use Rattle.driver.proofs.Working.{waits_later}
use Rattle.driver.proofs.commands.committed.Goals as goal

pub returns-in_err-is_written : goal.returns-in_err-is_written
returns-in_err-is_written g c =
    let p = err_from_is_err_and c.from_residual.result c.from_residual.ensures.1 in
    rw p.1 (more_calls IsUpkeep c.args.cpu.now c.loop.cpu c.is_written.new.cpu c.loop.invariant.2
    c.in_err-is_written.ensures)

pub returns-then-branch : goal.returns-then-branch
returns-then-branch g c =
    let mark = c.args.mark in
    let new = c.is_written.new.cpu in
    let So : Bool → Type 0 = λ b. IsWritten mark (Ok b) c.loop.cpu new in
    waits_later mark c.args.cpu.now c.loop.cpu new c.loop.invariant.2
    (subst So c.if-branch.true c.in_ok-is_written.ensures)
