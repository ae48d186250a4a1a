use Rattle.std.proofs.Common.{subst}
use Rattle.session.specs.Sessions.{SessionState, IsServing}
use Rattle.session.proofs.session.Session.has_served.Goals as goal

pub returns : goal.returns
returns g c =
    let P : SessionState g.row.D.Denot g.row.A.Denot → Type 0 = λ s. IsServing g.D.Device s.machine s.notes in
    subst P c.self.view_is c.self.invariant
