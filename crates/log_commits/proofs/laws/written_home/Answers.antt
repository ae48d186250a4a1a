use Rattle.log_commits.proofs.Written.{held_with_homes, may_start}
use Rattle.log_commits.proofs.laws.written_home.Goals as goal

pub returns : goal.returns
returns c = record {
  any_bytes = held_with_homes;
  next_start = λ t contents old new log held ds younger parts may.
      (may_start t contents old new log held ds younger parts may).0;
}
