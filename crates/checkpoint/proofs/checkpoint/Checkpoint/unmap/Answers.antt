use Rattle.std.proofs.Common.{ap, sym, subst}
use Rattle.checkpoint.specs.Checkpoint.{CheckpointState}
use Rattle.checkpoint.specs.Backing.{AreBacked}
use Rattle.spaces.specs.Spaces.{SpacesState}
use Rattle.checkpoint.proofs.BackingLaws.{AreBacked-frozen}
use Rattle.checkpoint.proofs.SpacesLaws.{AreBacked-without_mapping}
use Rattle.checkpoint.proofs.checkpoint.Checkpoint.unmap.Goals as goal

pub returns-clause-backed : goal.returns-clause-backed
returns-clause-backed g c = λ memory backed.
    AreBacked-frozen memory c.args.self.now _ c.unmap.new.self.map
    (ap (λ (s : CheckpointState). s.frozen) c.self.view_is)
    (subst (λ spaces. AreBacked memory c.args.self.now spaces) (ap (λ (s : SpacesState). s.map) (sym c.unmap.ensures))
    (AreBacked-without_mapping memory c.args.self.now c.args.spaces.now.map c.args.pcid c.args.range backed))
