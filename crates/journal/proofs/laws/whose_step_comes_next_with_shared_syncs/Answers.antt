use Rattle.journal.proofs.Moving.{lone_at_end, writer_of, all_of_them}
use Rattle.journal.proofs.laws.whose_step_comes_next_with_shared_syncs.Goals as goal

pub returns-clause-ahead : goal.returns-clause-ahead
returns-clause-ahead c = λ older newest ahead. lone_at_end older newest ahead

pub returns-clause-writer : goal.returns-clause-writer
returns-clause-writer c = λ older writer newer before writes behind. writer_of older writer newer before writes behind

pub returns-clause-all : goal.returns-clause-all
returns-clause-all c = λ oldest newer going behind none. all_of_them oldest newer going behind none
