use Rattle.driver.specs.Programs.{IsUpkeep}
use Rattle.driver.proofs.Calls.{more_calls}
use Rattle.driver.proofs.acts.ready.Goals as goal

pub loop-preserved : goal.loop-preserved
loop-preserved g c = (
  tt,
  tt,
  more_calls IsUpkeep c.args.cpu.now c.loop.cpu c.resumed.new.cpu c.loop.invariant.2 c.resumed.ensures,
)

pub returns-in_err-resumed-in-Stalled : goal.returns-in_err-resumed-in-Stalled
returns-in_err-resumed-in-Stalled g c =
    more_calls IsUpkeep c.args.cpu.now c.loop.cpu c.resumed.new.cpu c.loop.invariant.2 c.resumed.ensures
