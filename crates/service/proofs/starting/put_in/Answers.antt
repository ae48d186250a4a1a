use Rattle.std.proofs.Common.{refl, sym, subst, arith}
use Rattle.service.specs.Serving.{SharedState, ServesFrom}
use Rattle.service.proofs.starting.put_in.Goals as goal

pub new-locked-requires-clause-started : goal.new-locked-requires-clause-started
new-locked-requires-clause-started g c =
    let P : SharedState g.row.D.Denot → Type 0 =
    λ s. ServesFrom g.D.Device g.L.Origin.start g.L.Origin.all g.L.Origin.capacity s in
    subst P (sym c.over.ensures) (record {
      first = c.args.machine;
      start_is = c.requires.origin.0;
      all_are = c.requires.all;
      capacity_is = sym c.requires.origin.1;
      serving = record { fresh = c.requires.fresh; legal = refl; few = omega arith; counted = refl };
    })
