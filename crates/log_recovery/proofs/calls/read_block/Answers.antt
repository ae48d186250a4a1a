use Rattle.std.proofs.Common.{refl, ◌∙◌}
use Rattle.log_recovery.proofs.Blocks.{block_of_range}
use Rattle.log_recovery.proofs.calls.read_block.Goals as goal

pub returns-in-Ok-clause-bytes : goal.returns-in-Ok-clause-bytes
returns-in-Ok-clause-bytes g c = λ honest.
    c.in-Ok.ensures.bytes honest
    ∙ block_of_range (g.D.Device.seen c.args.device.now) c.from.result c.args.block 4096 c.from.ensures refl
