use Rattle.service.proofs.Answering.{decided}
use Rattle.service.proofs.gathering.is_answered.Goals as goal

pub returns : goal.returns
returns c = decided c.args.p c.args.trace.now c.args.answered.now c.loop-entry.entry-index c.loop-entry.met
    c.loop-entry-test.false c.loop-entry.invariant.0 c.loop-entry.invariant.1
