use Rattle.std.proofs.Common.{refl}
use Rattle.volume_codec.specs.Text.{zeros}
use Rattle.log_codec.proofs.seal.open_seal.Goals as goal

pub returns : goal.returns
unfolding zeros
returns c = refl
