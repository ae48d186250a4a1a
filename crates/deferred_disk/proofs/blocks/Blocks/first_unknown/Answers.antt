use Rattle.std.proofs.Common.{◌∙◌, sym}
use Rattle.deferred_disk.proofs.Deferring.{scan_on}
use Rattle.deferred_disk.proofs.blocks.Blocks.first_unknown.Goals as goal

pub loop-block-preserved : goal.loop-block-preserved
loop-block-preserved g c = c.loop-block.invariant ∙ scan_on c.args.self.now.flags c.loop-block.block c.args.to
    c.loop-block-test.true (sym c.is_known.ensures ∙ c.if-not-is_known.false)
