-- What follows of several works that were asked of a device, for the crates above, which take no lemma of this crate
-- from anywhere else; and a block by its bytes.
pub use Rattle.new_volume.proofs.Calls.{IsInside, IsOutOf, did_last, done_first, all_same}
pub use Rattle.new_volume.proofs.Blank.{block_is}
