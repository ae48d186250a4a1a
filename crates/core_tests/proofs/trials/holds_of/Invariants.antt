use Rattle.std.specs.Prelude.{length, Some}
use Rattle.core_tests.proofs.trials.holds_of.Given as goal

abbrev pub ghosts-served-L-Origin : goal.ghosts-served-L-Origin
ghosts-served-L-Origin g a = record {
  all = length a.machine.state.hardware.shootdown.processors;
  start = Some a.machine;
  capacity = a.capacity;
}

abbrev pub ghosts-served-L-Ledger : goal.ghosts-served-L-Ledger
ghosts-served-L-Ledger g a = record { name = a.blank.name; parts = a.blank.parts }
