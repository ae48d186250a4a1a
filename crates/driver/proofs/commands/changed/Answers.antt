use Rattle.std.proofs.lemmas.Result.{err_from_is_err_and}
use Rattle.driver.proofs.Completed.{cut_in_change, changed_so, changed_at_once}
use Rattle.driver.proofs.commands.changed.Goals as goal

pub returns-in_err-changed : goal.returns-in_err-changed
returns-in_err-changed g c =
    let p = err_from_is_err_and c.from_residual.result c.from_residual.ensures.1 in
    rw p.1 (cut_in_change c.args.act.now c.args.cpu.now c.made.new.cpu c.in_err-changed.ensures)

pub returns-in-Some : goal.returns-in-Some
returns-in-Some g c =
    changed_so c.args.act.now c.in-Some.mark c.in_ok-changed.changed.reply c.committed.result c.args.cpu.now
    c.made.new.cpu c.committed.new.cpu c.in_ok-changed.ensures c.in-Some.ensures c.committed.ensures

pub returns-in-None : goal.returns-in-None
returns-in-None g c =
    changed_at_once c.args.act.now c.in_ok-changed.changed.reply c.args.cpu.now c.made.new.cpu
    c.in_ok-changed.ensures c.in-None.ensures
