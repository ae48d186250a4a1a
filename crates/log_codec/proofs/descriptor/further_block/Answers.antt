use Rattle.std.proofs.Common.{[], refl}
use Rattle.log_codec.proofs.descriptor.further_block.Goals as goal

pub returns : goal.returns
returns c = c.put_homes.ensures [] c.zero_block-block.ensures refl
