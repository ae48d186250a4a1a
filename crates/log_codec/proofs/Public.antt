-- What follows of the definitions, for the crates above, which take no lemma of this crate from anywhere else: the
-- first of the ring's blocks, what a descriptor reads as, the next commit at a position, and where a log ends.
pub use Rattle.log_codec.proofs.Chains.{first_of_ring, count_within, next_alike, next_first, next_descriptor}
pub use Rattle.log_codec.proofs.Chains.{next_found, open_end, digest_end, goes_on, damaged_chain}
pub use Rattle.log_codec.proofs.Reading.{BodyReadsAs, reads_body, one_value, breaks_all}
