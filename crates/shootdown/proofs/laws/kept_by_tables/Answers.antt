use Rattle.shootdown.proofs.CoherenceLaws.{Coheres-grown, Coheres-destroyed, IsForgotten-destroyed}
use Rattle.shootdown.proofs.Narrowing.{entry_at-remove_other, IsNoWider-remove}
use Rattle.std.specs.FinMap as maps
use Rattle.shootdown.proofs.laws.kept_by_tables.Goals as goal

pub returns : goal.returns
returns c = record {
  grown = Coheres-grown;
  removed = λ spaces s pcid is elsewhere coheres.
      Coheres-destroyed spaces (maps.remove spaces pcid) s pcid is elsewhere
      (λ q page other. entry_at-remove_other spaces pcid q page other)
      (λ lock held. IsNoWider-remove lock.change spaces pcid) coheres;
  forgotten = IsForgotten-destroyed;
}
