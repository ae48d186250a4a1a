use Rattle.log_home.proofs.Kept.{home_kept}
use Rattle.log_home.proofs.Steps.{all_home}
use Rattle.log_home.proofs.laws.home_stays.Goals as goal

pub returns : goal.returns
returns c = record { by_commit = home_kept; all = all_home }
