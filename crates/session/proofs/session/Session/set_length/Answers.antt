use Rattle.session.specs.Lengths.{AnswersLength}
use Rattle.session.proofs.Serves.{carried_from, served_does}
use Rattle.session.proofs.session.Session.set_length.Goals as goal

pub returns : goal.returns
returns g c = carried_from g.D.Device (AnswersLength c.args.p c.args.file c.args.length c.set_length.result)
    c.set_length.new.self c.self.view_is c.set_length.ensures

pub invariant_of-self : goal.invariant_of-self
invariant_of-self g c = served_does g.D.Device _ _ _ _ _ c.self.invariant c.set_length.ensures.makes
