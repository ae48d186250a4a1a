use Rattle.std.proofs.lemmas.Result.{err_from_is_err_and}
use Rattle.driver.proofs.Completed.{cut_in_sleep_flush, cut_in_sleep_idle}
use Rattle.driver.proofs.commands.put_to_sleep.Goals as goal

pub returns-in_err-flushed : goal.returns-in_err-flushed
returns-in_err-flushed g c =
    let p = err_from_is_err_and c.from_residual.result c.from_residual.ensures.1 in
    rw p.1 (cut_in_sleep_flush c.args.cpu.now c.flushed.new.cpu c.in_err-flushed.ensures)

pub returns-in_err-made : goal.returns-in_err-made
returns-in_err-made g c =
    let p = err_from_is_err_and c.from_residual-in_err-made.result c.from_residual-in_err-made.ensures.1 in
    rw p.1 (cut_in_sleep_idle c.args.cpu.now c.flushed.new.cpu c.made.new.cpu
    c.in_ok-flushed.ensures c.in_err-made.ensures)

pub returns : goal.returns
returns g c = (c.flushed.new.cpu, _, c.in_ok-flushed.ensures, c.in_ok-made.ensures)
