use Rattle.log_format.proofs.Fresh.{fresh_log, fresh_files}
use Rattle.log_format.proofs.laws.fresh_volume.Goals as goal

pub returns-clause-log : goal.returns-clause-log
returns-clause-log c = fresh_log

pub returns-clause-files : goal.returns-clause-files
returns-clause-files c = fresh_files
