use Rattle.std.proofs.Common.{arith}
use Rattle.crash_table.proofs.Counted.{one_before}
use Rattle.crash_table.proofs.first_run.steps_before.Goals as goal

pub loop-i-preserved : goal.loop-i-preserved
loop-i-preserved c =
    omega (
      arith,
      c.loop-i.invariant,
      one_before c.args.counts.now c.loop-i.i c.args.call c.loop-i-test.true c.if-counts-i.false,
    )
