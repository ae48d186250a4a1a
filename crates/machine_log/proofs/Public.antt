-- What follows of the definitions, for the crates above, which take no lemma of this crate from anywhere else.
pub use Rattle.machine_log.proofs.Gates.{all_other}
