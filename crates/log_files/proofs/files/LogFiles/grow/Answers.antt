use Rattle.log_files.proofs.files.LogFiles.grow.Goals as goal

pub returns-clause-over : goal.returns-clause-over
returns-clause-over g c = λ contents honest over.
    c.put_growth.ensures.over contents (c.read_last.ensures.over contents honest over)
