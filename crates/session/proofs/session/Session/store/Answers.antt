use Rattle.session.specs.Ranges.{StoresReached}
use Rattle.session.proofs.Serves.{carried_from, served_does}
use Rattle.session.proofs.session.Session.store.Goals as goal

pub returns : goal.returns
returns g c = carried_from g.D.Device (StoresReached c.args.p c.args.va c.args.bytes.now c.store.result)
    c.store.new.self c.self.view_is c.store.ensures

pub invariant_of-self : goal.invariant_of-self
invariant_of-self g c = served_does g.D.Device _ _ _ _ _ c.self.invariant c.store.ensures.makes
