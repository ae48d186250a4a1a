use Rattle.shootdown.proofs.CoherenceLaws.{Coheres-fresh, Coheres-stalled, Coheres-idled, Coheres-resumed}
use Rattle.shootdown.proofs.CoherenceLaws.{Coheres-switched_to, Coheres-filled, Coheres-evicted, Coheres-without_page}
use Rattle.shootdown.proofs.laws.kept_by_processors.Goals as goal

pub returns : goal.returns
returns c = record {
  fresh = Coheres-fresh;
  stalled = Coheres-stalled;
  idled = Coheres-idled;
  resumed = Coheres-resumed;
  switched = Coheres-switched_to;
  filled = Coheres-filled;
  evicted = Coheres-evicted;
  dropped = Coheres-without_page;
}
