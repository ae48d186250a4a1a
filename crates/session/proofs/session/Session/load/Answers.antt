use Rattle.session.specs.Ranges.{LoadsReached}
use Rattle.session.proofs.Serves.{carried_from, served_does}
use Rattle.session.proofs.session.Session.load.Goals as goal

pub returns : goal.returns
returns g c = carried_from g.D.Device (LoadsReached c.args.p c.args.va c.args.len c.load.new.bytes.items c.load.result)
    c.load.new.self c.self.view_is c.load.ensures

pub invariant_of-self : goal.invariant_of-self
invariant_of-self g c = served_does g.D.Device _ _ _ _ _ c.self.invariant c.load.ensures.makes
