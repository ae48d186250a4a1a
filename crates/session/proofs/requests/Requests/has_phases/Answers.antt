use Rattle.std.proofs.Common.{subst}
use Rattle.shootdown.specs.Shootdown.{IsShootdown}
use Rattle.session.specs.Sessions.{SessionState}
use Rattle.session.proofs.requests.Requests.has_phases.Goals as goal

pub returns : goal.returns
returns g c =
    let P : SessionState g.row.D.Denot g.row.A.Denot → Type 0 = λ s. IsShootdown s.machine.state.hardware.shootdown in
    subst P c.self.view_is c.is_coherent.ensures.phases
