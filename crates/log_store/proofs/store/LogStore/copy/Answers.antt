use Rattle.std.proofs.Common.{refl}
use Rattle.log_store.proofs.Steps.{stays_copied, stays_failed}
use Rattle.log_store.proofs.store.LogStore.copy.Goals as goal

pub returns-in-Err-clause-over : goal.returns-in-Err-clause-over
returns-in-Err-clause-over g c = stays_failed g.D.Device c.self.view_is (c.step.ensures.leaves c.self.inside.second)

pub returns-clause-over : goal.returns-clause-over
returns-clause-over g c =
    stays_copied g.D.Device c.self.view_is c.requires.stage (g.met.D.Device.seen_is_left c.args.device.now)
    c.in-Ok.ensures.value.1 c.in-Ok.ensures.value.0 refl (c.step.ensures.leaves c.self.inside.second)
    (c.in-Ok.ensures.home c.self.inside.second)
