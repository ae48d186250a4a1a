use Rattle.recovery.proofs.Blank.{after_making}
use Rattle.recovery.proofs.laws.opened_after_making.Goals as goal

pub returns : goal.returns
returns g c = λ n files made later after result is is_later opens.
    after_making g.D.Device g.met.D.Device.seen_is_left g.met.D.Device.now_is_since n files made later after
    result is is_later opens
