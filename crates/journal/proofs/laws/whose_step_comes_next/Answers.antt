use Rattle.journal.proofs.Batches.{advanced-newest, advanced-oldest, current-newest, current-oldest}
use Rattle.journal.proofs.laws.whose_step_comes_next.Goals as goal

pub returns-clause-newest : goal.returns-clause-newest
returns-clause-newest c = λ older newest early. (current-newest older newest early, advanced-newest older newest early)

pub returns-clause-oldest : goal.returns-clause-oldest
returns-clause-oldest c = λ oldest newer none. (current-oldest oldest newer none, advanced-oldest oldest newer none)
