use Rattle.engine.proofs.Crashes.{since_refusal}
use Rattle.engine.proofs.laws.crashed_since_refusal.Goals as goal

pub returns : goal.returns
returns g c = λ before after shape refusal files refused honest all.
    since_refusal g.D.Device g.met.D.Device.seen_is_left before after shape refusal files refused honest all
