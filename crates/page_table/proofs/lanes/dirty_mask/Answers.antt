use Rattle.std.proofs.Common.{arith}
use Rattle.page_table.proofs.Masks.{bit_of_mask}
use Rattle.page_table.proofs.lanes.dirty_mask.Goals as goal

pub returns : goal.returns
returns c = bit_of_mask c.args.entries.now c.loop-place.mask c.told-entries
    (λ k less. c.loop-place.invariant.made k (omega arith))
