use Rattle.log_codec.proofs.Chains.{next_first, next_descriptor, next_found}
use Rattle.log_codec.proofs.laws.next_commit.Goals as goal

pub returns : goal.returns
returns c = record { first = next_first; descriptor = next_descriptor; found = next_found }
