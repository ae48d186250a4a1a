use Rattle.std.proofs.Common.{refl}
use Rattle.mappings.proofs.mappings.Mappings.is_mapped.Goals as goal

pub returns : goal.returns
returns g c = rw (c.covers_all.ensures, c.deref.ensures.value, ← c.self.view_is) refl
