use Rattle.std.proofs.Common.{refl}
use Rattle.mappings.specs.inside.Listed.{places_of}
use Rattle.mappings.proofs.mappings.Mappings.new.Goals as goal

pub returns : goal.returns
unfolding places_of
returns g c = rw c.new.ensures.items refl
