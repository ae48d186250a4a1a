use Rattle.std.proofs.Common.{arith}
use Rattle.recovery.proofs.RecoveredLengths.{batch_next}
use Rattle.recovery.proofs.opening.find_block.Goals as goal

pub record_of-requires : goal.record_of-requires
record_of-requires g c = (batch_next c.args.geometry.now c.args.found.now c.loop-newest.newest-index
    c.newest-item.result (omega arith) c.newest-item.is c.loop-newest.invariant.carry).0
