use Rattle.journal.proofs.Acknowledging.{answered_commits, commits_answered}
use Rattle.journal.proofs.laws.a_step_answers_what_it_commits.Goals as goal

pub returns : goal.returns
returns c w mark = (answered_commits w mark, commits_answered w mark)
