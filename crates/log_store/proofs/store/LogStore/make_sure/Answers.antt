use Rattle.std.proofs.Common.{refl}
use Rattle.log_store.proofs.Steps.{stays_failed, stays_sure}
use Rattle.log_store.proofs.store.LogStore.make_sure.Goals as goal

pub returns-in-Err-clause-over : goal.returns-in-Err-clause-over
returns-in-Err-clause-over g c = stays_failed g.D.Device c.self.view_is
    (λ contents chain honest index held. c.make_sure.ensures.leaves c.self.inside.second contents chain held)

pub returns-in-Ok-clause-over : goal.returns-in-Ok-clause-over
returns-in-Ok-clause-over g c = stays_sure g.D.Device c.self.view_is c.requires.stage c.in-Ok.ensures.value refl
    (λ contents chain honest index held. c.make_sure.ensures.leaves c.self.inside.second contents chain held)
    c.in-Ok.ensures.sure
