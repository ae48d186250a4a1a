use Rattle.driver.proofs.Working.{written_so}
use Rattle.driver.proofs.commands.is_written.Goals as goal

pub returns : goal.returns
returns g c =
    written_so c.args.mark c.in_ok-flushed.flushed.reply c.is_refused.result c.args.cpu.now c.is_committed.new.cpu
    c.made.new.cpu c.is_committed.ensures.number c.is_committed.ensures.answered c.in_ok-flushed.ensures
    c.is_refused.ensures
