use Rattle.std.proofs.Common.{refl}
use Rattle.log_home.proofs.Kept.{index_noted, index_forgot}
use Rattle.log_home.proofs.laws.index_stays.Goals as goal

pub returns : goal.returns
returns c = record { empty = λ g p b. refl; noted = index_noted; forgotten = index_forgot }
