-- What follows of the definitions, for the crates above, which take no lemma of this crate from anywhere else.
pub use Rattle.log_format.proofs.Crash.{IsBehind, StaysBehind, partly_behind, behind_torn, laying_left, finishing_left}
pub use Rattle.log_format.proofs.Finished.{IsFinished, finished_is, finishing_same}
pub use Rattle.log_format.proofs.Fresh.{log_of_fresh, files_of_fresh}
pub use Rattle.log_format.proofs.Laid.{AreLaidBlocks, laid_on, laid_is, laid_fresh, laying_inside, laying_out}
