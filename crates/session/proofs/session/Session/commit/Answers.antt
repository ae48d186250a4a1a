use Rattle.std.proofs.Common.{subst}
use Rattle.session.specs.CarriedOut.{CarriesOut}
use Rattle.session.specs.Commits.{AnswersCommit}
use Rattle.session.specs.Sessions.{SessionState}
use Rattle.session.proofs.Serves.{served_does}
use Rattle.session.proofs.session.Session.commit.Goals as goal

pub invariant_of-self : goal.invariant_of-self
invariant_of-self g c = served_does g.D.Device _ _ _ _ _ c.self.invariant c.commit.ensures.answers.makes

pub returns-clause-answers : goal.returns-clause-answers
returns-clause-answers g c =
    let P : SessionState g.row.D.Denot g.row.A.Denot → Type 0 =
    λ s. CarriesOut g.D.Device s.machine s.notes (AnswersCommit c.args.p s.notes c.commit.result)
    c.commit.new.self.machine c.commit.new.self.notes in
    subst P c.self.view_is c.commit.ensures.answers
