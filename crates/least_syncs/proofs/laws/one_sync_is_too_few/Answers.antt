use Rattle.std.proofs.Common.{sym}
use Rattle.least_syncs.proofs.Alike.{one_sync, same_places, two_syncs}
use Rattle.least_syncs.proofs.Counting.{few_contents}
use Rattle.least_syncs.proofs.laws.one_sync_is_too_few.Goals as goal

pub returns-clause-same : goal.returns-clause-same
returns-clause-same g c old one other begun a b these others first second places new_one new_other apart =
    let recovers = g.R.Recovery.recovers in (
      two_syncs recovers old other one begun b a others these second first
          (same_places begun others these a first.made (λ i. sym (places i))) new_one apart,
      two_syncs recovers old one other begun a b these others first second
          (same_places begun these others b second.made places) new_other (λ is. apart (sym is)),
    )

pub returns-clause-over : goal.returns-clause-over
returns-clause-over g c = two_syncs g.R.Recovery.recovers

pub returns-clause-many : goal.returns-clause-many
returns-clause-many g c = few_contents g.R.Recovery.recovers

pub returns-clause-none : goal.returns-clause-none
returns-clause-none g c = one_sync g.R.Recovery.recovers
