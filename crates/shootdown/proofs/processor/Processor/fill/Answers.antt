use Rattle.std.proofs.Common.{ap, sym, ◌∙◌}
use Rattle.shootdown.specs.Processors.{Processor}
use Rattle.shootdown.proofs.ProcessorLaws.{IsProcessor-filled}
use Rattle.shootdown.proofs.processor.Processor.fill.Goals as goal

pub invariant_of-self : goal.invariant_of-self
invariant_of-self g c = (
  rw c.fill.ensures (IsProcessor-filled _ _
      (c.requires ∙ sym (ap (λ (p : Processor). p.space) c.self.view_is)) c.self.invariant.0),
  c.self.invariant.1,
)
