use Rattle.std.proofs.Common.{subst}
use Rattle.service.specs.Serving.{SharedState, ServesFrom}
use Rattle.service.proofs.gathering.ended.Goals as goal

pub returns-clause-serves : goal.returns-clause-serves
returns-clause-serves g c = subst (λ (s : SharedState g.row.D.Denot).
    ServesFrom g.D.Device g.L.Origin.start g.L.Origin.all g.L.Origin.capacity s) c.locked.view_is c.locked.invariant.1
