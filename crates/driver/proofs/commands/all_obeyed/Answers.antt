use Rattle.std.proofs.lemmas.Result.{err_from_is_err_and}
use Rattle.driver.proofs.Completed.{cut_at, obeyed_to}
use Rattle.driver.proofs.commands.all_obeyed.Goals as goal

pub returns-in_err-obeyed : goal.returns-in_err-obeyed
returns-in_err-obeyed g c =
    let at = c.index-program-i in
    let p = err_from_is_err_and c.from_residual.result c.from_residual.ensures.1 in
    rw p.1 (cut_at c.args.program.now c.loop-i.i at.result c.args.cpu.now c.loop-i.cpu c.obeyed.new.cpu
    c.loop-i-test.true at.is c.loop-i.invariant c.in_err-obeyed.ensures)

pub loop-i-preserved : goal.loop-i-preserved
loop-i-preserved g c =
    let at = c.index-program-i in
    obeyed_to c.args.program.now c.loop-i.i at.result c.args.cpu.now c.loop-i.cpu c.obeyed.new.cpu c.loop-i-test.true
    at.is c.loop-i.invariant c.in_ok-obeyed.ensures
