use Rattle.std.specs.Prelude.{length, Some}
use Rattle.driver.proofs.running.named.Given as goal

abbrev pub ghosts-serve-L-Origin : goal.ghosts-serve-L-Origin
ghosts-serve-L-Origin g a = record {
  all = length a.machine.state.hardware.shootdown.processors;
  start = Some a.machine;
  capacity = a.script.now.trace;
}

abbrev pub ghosts-serve-L-Ledger : goal.ghosts-serve-L-Ledger
ghosts-serve-L-Ledger g a = record { name = a.blank.name; parts = a.blank.parts }
