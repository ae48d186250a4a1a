use Rattle.std.proofs.Common.{refl}
use Rattle.log_store.proofs.Steps.{select_failed, stays_selected}
use Rattle.log_store.proofs.store.LogStore.select.Goals as goal

pub returns-in-Err-clause-over : goal.returns-in-Err-clause-over
returns-in-Err-clause-over g c =
    select_failed g.D.Device c.self.view_is c.requires.stage c.oldest-oldest.ensures c.in-Err.ensures.leaves

pub returns-in-Ok-clause-over : goal.returns-in-Ok-clause-over
returns-in-Ok-clause-over g c =
    stays_selected g.D.Device c.self.view_is c.requires.stage c.oldest-oldest.ensures
    (g.met.D.Device.seen_is_left c.args.device.now)
    (record { tail = c.in-Ok.ensures.value; second = refl; stage = refl; work = refl; found = c.forget.ensures })
    c.in-Ok.ensures.leaves
