use Rattle.machine.specs.declared.act.Act.TheVariants as acts
use Rattle.std.proofs.lemmas.Result.{err_from_is_err_and}
use Rattle.std.proofs.Common.{refl}
use Rattle.driver.specs.Programs.{IsUpkeep}
use Rattle.driver.proofs.Calls.{more_calls}
use Rattle.driver.proofs.Working.{ends_later, flushing, flush_ends, flush_made}
use Rattle.driver.proofs.commands.flushed.Goals as goal

pub returns-in_err-flushed : goal.returns-in_err-flushed
returns-in_err-flushed g c =
    let p = err_from_is_err_and c.from_residual.result c.from_residual.ensures.1 in
    rw p.1 (more_calls IsUpkeep c.args.cpu.now c.loop.cpu c.made.new.cpu c.loop.invariant.2
    (flushing c.loop.cpu c.made.new.cpu c.in_err-flushed.ensures))

pub returns-then-is_last_flush : goal.returns-then-is_last_flush
returns-then-is_last_flush g c =
    let reply = c.in_ok-flushed.flushed.reply in (
      reply,
      ends_later IsUpkeep (acts.Flush, reply) c.args.cpu.now c.loop.cpu c.made.new.cpu c.loop.invariant.2
          (flush_ends reply c.loop.cpu c.made.new.cpu c.in_ok-flushed.ensures),
      c.if-is_last_flush.ensures.0 refl,
    )

pub loop-preserved : goal.loop-preserved
loop-preserved g c = (
  tt,
  tt,
  more_calls IsUpkeep c.args.cpu.now c.loop.cpu c.made.new.cpu c.loop.invariant.2
      (flush_made c.in_ok-flushed.flushed.reply c.loop.cpu c.made.new.cpu c.in_ok-flushed.ensures),
)
