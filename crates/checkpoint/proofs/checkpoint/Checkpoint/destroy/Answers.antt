use Rattle.std.proofs.Common.{ap, sym, subst}
use Rattle.checkpoint.specs.Checkpoint.{CheckpointState}
use Rattle.checkpoint.specs.Backing.{AreBacked}
use Rattle.spaces.specs.Spaces.{SpacesState}
use Rattle.checkpoint.proofs.BackingLaws.{AreBacked-frozen}
use Rattle.checkpoint.proofs.SpacesLaws.{AreBacked-remove}
use Rattle.checkpoint.proofs.checkpoint.Checkpoint.destroy.Goals as goal

pub returns-clause-backed : goal.returns-clause-backed
returns-clause-backed g c = λ memory backed.
    AreBacked-frozen memory c.args.self.now _ c.remove.new.self.map
    (ap (λ (s : CheckpointState). s.frozen) c.self.view_is)
    (subst (λ spaces. AreBacked memory c.args.self.now spaces) (ap (λ (s : SpacesState). s.map) (sym c.remove.ensures))
    (AreBacked-remove memory c.args.self.now c.args.spaces.now.map c.args.pcid backed))
