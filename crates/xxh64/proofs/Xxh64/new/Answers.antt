use Rattle.std.proofs.Common.{refl}
use Rattle.xxh64.specs.Xxh64.{lanes_after}
use Rattle.xxh64.proofs.Xxh64.new.Goals as goal

pub returns : goal.returns
unfolding lanes_after
returns c = record { seed_is = refl; total = refl; taken = record { stripes = c.first_lanes.ensures; left = refl } }
