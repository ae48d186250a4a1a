use Rattle.shootdown.proofs.CoherenceLaws.{Coheres-begun, IsUnused-from_Coheres, Coheres-changed, Coheres-finished}
use Rattle.shootdown.proofs.laws.kept_by_changes.Goals as goal

pub returns : goal.returns
returns c = record {
  begun = Coheres-begun;
  unused = IsUnused-from_Coheres;
  changed = Coheres-changed;
  finished = Coheres-finished;
}
