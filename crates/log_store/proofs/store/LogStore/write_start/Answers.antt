use Rattle.std.proofs.Common.{refl}
use Rattle.log_store.proofs.Steps.{stays_failed, stays_started}
use Rattle.log_store.proofs.store.LogStore.write_start.Goals as goal

pub returns-in-Err-clause-over : goal.returns-in-Err-clause-over
returns-in-Err-clause-over g c = stays_failed g.D.Device c.self.view_is
    (λ contents chain honest index held. c.write_start.ensures.leaves contents chain honest held)

pub returns-in-Ok-clause-over : goal.returns-in-Ok-clause-over
returns-in-Ok-clause-over g c = stays_started g.D.Device c.self.view_is c.requires.stage c.requires.done
    c.in-Ok.ensures.value c.oldest.ensures refl
    (λ contents chain honest index held. c.write_start.ensures.leaves contents chain honest held) c.in-Ok.ensures.ready
