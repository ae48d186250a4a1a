-- What follows of the definitions, for the crates above, which take no lemma of this crate from anywhere else.
pub use Rattle.log_store.proofs.Cases.{step_cases, failed_step_may}
pub use Rattle.log_store.proofs.Sound.{committing_log}
pub use Rattle.log_store.proofs.Stores.{read_only}
pub use Rattle.log_store.proofs.First.{AreBehind, commit_behind, step_behind, first_stays}
pub use Rattle.log_store.proofs.Ended.{step_outside, ended_stays}
