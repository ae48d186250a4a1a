use Rattle.std.proofs.Common.{refl}
use Rattle.least_syncs.proofs.Examples.{flags_are, gate_commits}
use Rattle.least_syncs.proofs.laws.what_few_syncs_do.Goals as goal

pub returns-clause-places : goal.returns-clause-places
returns-clause-places c = flags_are

pub returns-clause-bytes : goal.returns-clause-bytes
returns-clause-bytes c byte other = (gate_commits byte, refl, λ i. refl)
