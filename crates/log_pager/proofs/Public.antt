-- What follows of the definitions, for the crates above, which take no lemma of this crate from anywhere else.
pub use Rattle.log_pager.proofs.Blocks.{committed_is}
pub use Rattle.log_pager.proofs.Over.{none_put, pager_kept, put_refused, steps_log}
