use Rattle.std.proofs.Common.{arith}
use Rattle.shootdown.proofs.ProcessorLaws.{IsProcessor-drained}
use Rattle.shootdown.proofs.processor.Processor.drain.Goals as goal

pub invariant_of-self : goal.invariant_of-self
invariant_of-self g c = (
  rw (c.clear.ensures.items, c.carry_out.ensures.cached, c.carry_out.ensures.flags, c.deref.ensures.value)
      (IsProcessor-drained _ c.self.invariant.0),
  omega (arith, c.clear.ensures.capacity, c.self.invariant.1),
)
