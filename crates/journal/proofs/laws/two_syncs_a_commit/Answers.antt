use Rattle.journal.proofs.Counting.{two_syncs}
use Rattle.journal.proofs.laws.two_syncs_a_commit.Goals as goal

pub returns : goal.returns
returns c g outs commits syncs is_geometry shared run none = two_syncs g outs commits syncs is_geometry shared run none
