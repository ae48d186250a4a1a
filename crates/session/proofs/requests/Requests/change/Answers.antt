use Rattle.std.proofs.Common.{arith}
use Rattle.session.proofs.requests.Requests.change.Goals as goal

pub change_from-requires : goal.change_from-requires
change_from-requires g c = record { held = c.requires; calm = λ q below. absurd (omega (arith, below)) }
