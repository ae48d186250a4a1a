use Rattle.std.proofs.Common.{[], ◌∷◌, refl, subst}
use Rattle.session.specs.Sessions.{SessionState}
use Rattle.session.specs.Steps.{Makes}
use Rattle.session.proofs.requests.Requests.make.Goals as goal

pub returns-clause-makes : goal.returns-clause-makes
returns-clause-makes g c =
    let P : SessionState g.row.D.Denot g.row.A.Denot → Type 0 = λ s. Makes g.D.Device s.machine s.notes
    (c.args.step.now ∷ []) (c.enter-reply.result ∷ []) c.enter-reply.new.self c.after-self-inside.result in
    subst P c.self.view_is (record {
      taken = (c.enter-reply.new.self, c.enter-reply.ensures.taken, refl);
      notes = c.after-self-inside.ensures;
    })
