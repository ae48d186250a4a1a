use Rattle.std.proofs.Common.{[], ◌∷◌, subst}
use Rattle.session.specs.Sessions.{SessionState}
use Rattle.session.specs.Steps.{Makes}
use Rattle.session.proofs.Serves.{served_more}
use Rattle.session.proofs.session.Session.make.Goals as goal

pub invariant_of-self : goal.invariant_of-self
invariant_of-self g c =
    let inside = c.self.inside in
    served_more g.D.Device inside.requests.machine c.make.new.self.machine inside.requests.notes c.make.new.self.notes
    c.args.step.now c.make.result c.self.invariant c.make.ensures.makes

pub returns-clause-makes : goal.returns-clause-makes
returns-clause-makes g c =
    let P : SessionState g.row.D.Denot g.row.A.Denot → Type 0 = λ s. Makes g.D.Device s.machine s.notes
    (c.args.step.now ∷ []) (c.make.result ∷ []) c.make.new.self.machine c.make.new.self.notes in
    subst P c.self.view_is c.make.ensures.makes
