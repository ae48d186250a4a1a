use Rattle.std.proofs.Common.{length, ◌∙◌}
use Rattle.recovery.proofs.BlockRanges.{blocks_of_range}
use Rattle.recovery.proofs.calls.read_blocks.Goals as goal

pub returns-clause-bytes : goal.returns-clause-bytes
returns-clause-bytes g c = λ honest.
    c.in_ok-read.ensures.bytes honest
    ∙ blocks_of_range (g.D.Device.seen c.args.device.now) c.from.result c.args.block
    (length c.args.buffer.now) c.args.count
    c.from.ensures c.requires.size
