-- What follows of the definitions, for the crates above, and for `machine`, which takes no lemma of this crate from
-- anywhere else: lengths of what is read and of what is written, where home blocks lie, and padded bytes.
pub use Rattle.volume_codec.proofs.Recovered.{length-file, blocks_from-device}
pub use Rattle.volume_codec.proofs.Layouts.{few_journals, few_slots, descriptor_blocks-some, descriptor_blocks-one}
pub use Rattle.volume_codec.proofs.Lengths.{length-lengths_in, fixed_lengths, fixed_has_lengths, lengths_in-same}
pub use Rattle.volume_codec.proofs.Lengths.{has_lengths-same, same_lengths_block, said_lengths, reads_lengths}
pub use Rattle.volume_codec.proofs.Spelling.{length-number_text}
pub use Rattle.volume_codec.proofs.Places.{first_home_of-next, first_home_of-le}
pub use Rattle.volume_codec.proofs.Places.{total_pages-take_more, total_pages-take_le, fits_geometry}
pub use Rattle.volume_codec.proofs.Blocks.{length-block_at}
pub use Rattle.volume_codec.proofs.Padding.{length-padded, length-zeros, zeros-nil, take-past}
pub use Rattle.volume_codec.proofs.Described.{length-numbers, length-descriptor_text}
pub use Rattle.volume_codec.proofs.Homes.{rising_at, rising_apart}
