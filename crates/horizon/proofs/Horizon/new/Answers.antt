use Rattle.std.proofs.Common.{rules}
use Rattle.horizon.proofs.Rises.{begins}
use Rattle.horizon.proofs.Horizon.new.Goals as goal

pub ruled-requires : goal.ruled-requires
ruled-requires c = (search rules, (search rules, begins))
