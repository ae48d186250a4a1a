use Rattle.std.proofs.Common.{rules}
use Rattle.horizon.proofs.Rises.{reads}
use Rattle.horizon.proofs.Horizon.read.Goals as goal

pub load_as-words-requires : goal.load_as-words-requires
load_as-words-requires g c = (search rules, (search rules, (search rules, reads _ _)))
