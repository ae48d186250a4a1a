use Rattle.log_commits.proofs.Committing.{written_kept, ready_kept}
use Rattle.log_commits.proofs.laws.committing_keeps.Goals as goal

pub returns : goal.returns
returns c = record { written = written_kept; ready = ready_kept }
