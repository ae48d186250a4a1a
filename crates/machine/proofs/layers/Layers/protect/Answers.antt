use Rattle.machine.proofs.Names.{refl, ap, SpacesState, ShootdownState}
use Rattle.machine.proofs.code.Parts.{quiet_begun}
use Rattle.machine.proofs.layers.Layers.protect.Goals as goal

pub returns-clause-quiet : goal.returns-clause-quiet
returns-clause-quiet g c =
    quiet_begun refl refl (ap (λ (s : ShootdownState). s.lock) c.begin.ensures.begun)
    (ap (λ (s : SpacesState). s.prepared) c.in_ok-prepare.ensures.prepared)
