-- What other crates use of the proofs of this one: what holds after calls, runs one after the other, and what a crash
-- leaves of them.
pub use Rattle.log_histories.proofs.Lowered.{lengths_say}
pub use Rattle.log_histories.proofs.Keeping.{KeepsLog}
pub use Rattle.log_histories.proofs.Crashes.{contents_now, keeps}
pub use Rattle.log_histories.proofs.Runs.{come_on, gone_on, left_since, left_in_run_commit, left_in_run_step, told_run}
pub use Rattle.log_histories.proofs.Runs.{same_table}
