use Rattle.std.proofs.Common.{refl}
use Rattle.frames.specs.Frames.{blank_bytes, zero_page}
use Rattle.checkpoint.proofs.resizing.zeros.Goals as goal

pub returns : goal.returns
unfolding blank_bytes zero_page
returns c = refl
