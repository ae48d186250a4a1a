use Rattle.recovery.proofs.Reopened.{opened_contents, opened_files}
use Rattle.recovery.proofs.laws.opened_as_recovered.Goals as goal

pub returns : goal.returns
returns g c = record { contents = opened_contents g.D.Device; files = opened_files g.D.Device }
