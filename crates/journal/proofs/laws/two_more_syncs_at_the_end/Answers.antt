use Rattle.journal.proofs.Ending.{two_more_syncs}
use Rattle.journal.proofs.laws.two_more_syncs_at_the_end.Goals as goal

pub returns : goal.returns
returns c g outs ended commits syncs more is_geometry shared run none goes =
    two_more_syncs g outs ended commits syncs more is_geometry shared run none goes
