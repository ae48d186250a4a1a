-- What follows of the definitions, for the crates above, which take no lemma of this crate from anywhere else: an index
-- when a commit is noted and when old ones are forgotten, and what is home.
pub use Rattle.log_home.proofs.Chained.{none_some, newest_block, newest_some}
pub use Rattle.log_home.proofs.Steps.{home_in}
pub use Rattle.log_home.proofs.Kept.{index_noted, index_forgot, index_passed, home_kept}
