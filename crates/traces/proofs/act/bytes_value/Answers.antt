use Rattle.traces.proofs.Written.{bytes_read}
use Rattle.traces.proofs.act.bytes_value.Goals as goal

pub returns-in-Ok-clause-reads : goal.returns-in-Ok-clause-reads
returns-in-Ok-clause-reads c =
    λ few. bytes_read c.in-Ok.items.items c.args.bytes.now c.in-Ok.ensures.written c.in-Ok.ensures.reads few
