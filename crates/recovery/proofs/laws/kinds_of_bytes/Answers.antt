use Rattle.recovery.proofs.Reopened.{no_kind, one_kind}
use Rattle.recovery.proofs.laws.kinds_of_bytes.Goals as goal

pub returns : goal.returns
returns c = record { volume = no_kind; refused = one_kind }
