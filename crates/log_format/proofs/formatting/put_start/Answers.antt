use Rattle.std.proofs.Common.{List, ℕ, refl, ap}
use Rattle.device.specs.Work.{WriteAt}
use Rattle.device.proofs.Public.{did_as}
use Rattle.log_format.proofs.formatting.put_start.Goals as goal

pub returns-clause-did : goal.returns-clause-did
returns-clause-did g c =
    did_as g.D.Device (ap (λ (block : List ℕ). WriteAt 8192 block) c.encode_start-start.ensures) refl c.write_at.ensures
