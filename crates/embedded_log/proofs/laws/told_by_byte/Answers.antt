use Rattle.embedded_log.proofs.Left.{told_mark}
use Rattle.embedded_log.proofs.laws.told_by_byte.Goals as goal

pub returns : goal.returns
returns c = λ files mark s reached byte. told_mark files mark s reached byte
