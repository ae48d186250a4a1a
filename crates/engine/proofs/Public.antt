-- What follows of the definitions, for `crash_table`, which takes no lemma of this crate from anywhere else: a machine
-- that was started is at the start of a run, and one more step of a run.
pub use Rattle.engine.proofs.Starts.{begins}
pub use Rattle.engine.proofs.Runs.{taken_kept, taken_next, taken_length, length_more}
