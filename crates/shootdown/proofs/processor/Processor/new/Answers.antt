use Rattle.std.proofs.Common.{arith}
use Rattle.shootdown.proofs.ProcessorLaws.{IsProcessor-fresh}
use Rattle.shootdown.proofs.processor.Processor.new.Goals as goal

pub invariant_of-result : goal.invariant_of-result
invariant_of-result g c = (
  rw (c.in_ok-new.ensures, c.in_ok-with_capacity.ensures.items, c.first_flags.ensures)
      (IsProcessor-fresh c.args.tlb c.requires),
  omega (arith, c.in_ok-with_capacity.ensures.capacity),
)
