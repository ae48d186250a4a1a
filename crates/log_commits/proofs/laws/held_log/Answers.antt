use Rattle.log_commits.proofs.Left.{ends_at_start, held_at_start}
use Rattle.log_commits.proofs.Told.{recovers, up_to}
use Rattle.log_commits.proofs.laws.held_log.Goals as goal

pub returns : goal.returns
returns c = record { recovers = recovers; up_to = up_to; at_start = held_at_start; ends_at_start = ends_at_start }
