-- What other crates use of the proofs of this one.
pub use Rattle.kept_blocks.proofs.Putting.{bytes_put, length_put, newest_push, rising_put}
pub use Rattle.kept_blocks.proofs.Changing.{bytes_cut, bytes_without, bytes_zeros, fewer_without, homes_cut, inside_of}
pub use Rattle.kept_blocks.proofs.Changing.{is_among, is_outside, length_cut, length_zeros, outside_above}
pub use Rattle.kept_blocks.proofs.Changing.{outside_below, rising_without, rising_zeros}
