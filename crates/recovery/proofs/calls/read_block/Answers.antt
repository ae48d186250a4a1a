use Rattle.std.proofs.Common.{length, ◌∙◌, ap}
use Rattle.volume_codec.proofs.Padding.{length-zeros}
use Rattle.recovery.proofs.BlockRanges.{block_of_range}
use Rattle.recovery.proofs.calls.read_block.Goals as goal

pub returns-clause-bytes : goal.returns-clause-bytes
returns-clause-bytes g c = λ honest.
    c.in_ok-read.ensures.bytes honest
    ∙ block_of_range (g.D.Device.seen c.args.device.now) c.from.result c.args.block
    (length c.zero_block-bytes.result) c.from.ensures
    (ap length c.zero_block-bytes.ensures ∙ length-zeros 4096)
