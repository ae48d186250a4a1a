-- What crates above take of the proofs: runs of which one comes after another.
pub use Rattle.machine.proofs.code.Runs.{taken_then}
