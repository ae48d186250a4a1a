use Rattle.std.proofs.Common.{ap}
use Rattle.shootdown.specs.Processors.{Processor, loaded}
use Rattle.shootdown.proofs.ProcessorLaws.{IsProcessor-loaded}
use Rattle.shootdown.proofs.Words.{flags_of-marked}
use Rattle.shootdown.proofs.processor.Processor.load.Goals as goal

pub invariant_of-self : goal.invariant_of-self
invariant_of-self g c = (
  rw (c.load_cr3.ensures, flags_of-marked _ _ _ _ c.requires c.mark.ensures)
      (IsProcessor-loaded _ _ _ c.requires c.self.invariant.0),
  c.self.invariant.1,
)

pub returns : goal.returns
returns g c = rw (c.load_cr3.ensures, flags_of-marked _ _ _ _ c.requires c.mark.ensures)
    (ap (λ (p : Processor). loaded p c.args.pcid c.args.keep) c.self.view_is)
