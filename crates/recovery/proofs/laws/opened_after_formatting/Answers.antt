use Rattle.recovery.proofs.Blank.{after_formatting}
use Rattle.recovery.proofs.laws.opened_after_formatting.Goals as goal

pub returns : goal.returns
returns g c = λ layout slots n files old new later after result honest formatted is opens.
    after_formatting g.D.Device g.met.D.Device.seen_is_left g.met.D.Device.now_is_since layout slots n files old new
    later after result honest formatted is opens
