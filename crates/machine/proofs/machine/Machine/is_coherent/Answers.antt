use Rattle.machine.proofs.Names.{subst, Coheres, AreBacked, IsShootdown, Whole}
use Rattle.machine.proofs.machine.Machine.is_coherent.Goals as goal

pub returns-clause-coheres : goal.returns-clause-coheres
returns-clause-coheres g c =
    subst (λ (w : Whole g.row.D.Denot). Coheres w.state.hardware.spaces w.state.hardware.shootdown) c.self.view_is
    c.are_coherent.ensures.coheres

pub returns-clause-backed : goal.returns-clause-backed
returns-clause-backed g c =
    subst (λ (w : Whole g.row.D.Denot). AreBacked w.state.hardware.memory w.state.checkpoint w.state.hardware.spaces)
    c.self.view_is c.are_coherent.ensures.backed

pub returns-clause-phases : goal.returns-clause-phases
returns-clause-phases g c =
    subst (λ (w : Whole g.row.D.Denot). IsShootdown w.state.hardware.shootdown) c.self.view_is
    c.are_coherent.ensures.phases
