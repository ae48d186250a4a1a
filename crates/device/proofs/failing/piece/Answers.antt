use Rattle.std.proofs.Common.{refl}
use Rattle.device.specs.Failing.{spoilt}
use Rattle.device.proofs.failing.piece.Goals as goal

pub returns : goal.returns
unfolding spoilt
returns c = refl
