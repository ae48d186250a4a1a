use Rattle.std.proofs.Common.{get_or, ap, arith}
use Rattle.std.proofs.lemmas.List.Edits.{map_over_more}
use Rattle.shootdown.specs.Processors.{Processor, notified}
use Rattle.shootdown.proofs.shootdown.notifying.notify_all.Goals as goal

pub loop-processor-preserved : goal.loop-processor-preserved
loop-processor-preserved g c =
    let xs = c.loop-processor.processors in
    let i = c.loop-processor.processor-index in
    rw c.notify.ensures (map_over_more (λ (x : Processor). notified x c.args.action) c.args.processors.now xs i _
    (omega arith) c.loop-processor.invariant (ap (λ (d : Processor). get_or xs i d) c.processor-item.is))
