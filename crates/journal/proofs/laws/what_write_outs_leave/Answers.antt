use Rattle.journal.proofs.KeptConsistent.{consistent}
use Rattle.journal.proofs.laws.what_write_outs_leave.Goals as goal

pub returns-clause-left : goal.returns-clause-left
returns-clause-left g c v outs old new s = (consistent g.D.Device v s).left

pub returns-clause-reads : goal.returns-clause-reads
returns-clause-reads g c v outs old new s = (consistent g.D.Device v s).reads

pub returns-clause-rests : goal.returns-clause-rests
returns-clause-rests g c v outs old new s = (consistent g.D.Device v s).rests
