use Rattle.std.proofs.Common.{arith}
use Rattle.frames.proofs.PageLemmas.{all_in_use}
use Rattle.frames.proofs.pages.give_out_all.Goals as goal

pub returns-clause-all : goal.returns-clause-all
returns-clause-all g c = all_in_use c.loop.pages.slots c.loop.pages.capacity
    (omega (arith, c.capacity-room.ensures.slots, c.capacity-room.ensures.value))
    (omega (arith, c.loop.invariant.given, c.loop.invariant.room, c.loop-test.false, c.loop.auto.counter-end))
