-- What follows of the definitions, for the crates above, which take no lemma of this crate from anywhere else.
pub use Rattle.crash_table.proofs.Reading.{bytes_more, all_bytes}
pub use Rattle.crash_table.proofs.Counted.{counted_all, counted_next, counted_taken, if_same, none_past, one_before}
