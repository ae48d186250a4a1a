use Rattle.std.proofs.Common.{arith}
use Rattle.volume_codec.proofs.Layouts.{descriptor_end-low, first_home-within}
use Rattle.recovery.proofs.opening.read_journal.Goals as goal

pub read_blocks-requires-clause-long : goal.read_blocks-requires-clause-long
read_blocks-requires-clause-long g c =
    let geometry = c.args.geometry.now in
    omega (
      arith,
      descriptor_end-low geometry.layout geometry.slots c.args.journal c.requires.there,
      c.requires.long,
      c.descriptor_block-first.ensures.value,
      c.descriptor_blocks.ensures.value,
      first_home-within geometry c.descriptor_block-first.ensures.geometry,
    )
