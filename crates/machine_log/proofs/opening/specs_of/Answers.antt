use Rattle.std.proofs.Common.{◌∙◌, arith, length-set}
use Rattle.machine_log.proofs.Tables.{specs_next}
use Rattle.machine_log.proofs.opening.specs_of.Goals as goal

pub loop-file-preserved : goal.loop-file-preserved
loop-file-preserved g c =
    let i = c.loop-file.invariant in
    record {
      written = specs_next c.loop-file.specs c.args.table.now.files c.loop-file.file _ (omega arith) i.written
          c.name.ensures c.capacity.ensures c.capacity-in-loop-file.ensures;
      whole = length-set c.loop-file.specs c.loop-file.file _ ∙ i.whole;
    }
