use Rattle.log_codec.proofs.Reading.{breaks_all}
use Rattle.log_codec.proofs.laws.broken_bytes.Goals as goal

pub returns : goal.returns
returns c = breaks_all
