use Rattle.std.proofs.lemmas.Result.{err_from_is_err_and}
use Rattle.driver.proofs.Completed.{cut_in_program, worked_so}
use Rattle.driver.proofs.commands.worked.Goals as goal

pub returns-in_err-all_obeyed : goal.returns-in_err-all_obeyed
returns-in_err-all_obeyed g c =
    let p = err_from_is_err_and c.from_residual.result c.from_residual.ensures.1 in
    rw p.1 (cut_in_program c.args.program.now c.args.cpu.now c.all_obeyed.new.cpu c.in_err-all_obeyed.ensures)

pub returns : goal.returns
returns g c =
    worked_so c.args.program.now c.put_to_sleep.result c.args.cpu.now c.all_obeyed.new.cpu c.put_to_sleep.new.cpu
    c.in_ok-all_obeyed.ensures c.put_to_sleep.ensures
