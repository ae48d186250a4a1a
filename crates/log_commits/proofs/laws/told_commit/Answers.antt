use Rattle.log_commits.proofs.Told.{told_commit}
use Rattle.log_commits.proofs.laws.told_commit.Goals as goal

pub returns : goal.returns
returns c = told_commit
