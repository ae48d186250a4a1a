use Rattle.journal.proofs.Alone.{alone_now, alone_reads, alone_rests, alone_holds}
use Rattle.journal.proofs.laws.what_a_write_out_leaves.Goals as goal

pub returns-clause-left : goal.returns-clause-left
returns-clause-left g c v flush old new s = alone_now g.D.Device v s

pub returns-clause-reads : goal.returns-clause-reads
returns-clause-reads g c v flush old new s = alone_reads g.D.Device v s

pub returns-clause-rests : goal.returns-clause-rests
returns-clause-rests g c v flush old new s whole at =
    let rests = alone_rests g.D.Device v s whole at in
    (rests.0, rests.1, alone_holds g.D.Device v s whole at)
