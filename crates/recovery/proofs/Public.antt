-- What crates above take of the proofs: calls and volumes that only read, which bytes are refused, and that blocks of
-- recovered contents are whole;
pub use Rattle.volume_codec.proofs.Batches.{length-contents_in}
pub use Rattle.recovery.proofs.FoundJournals.{refuses_read}
pub use Rattle.recovery.proofs.Kept.{read_then, kept_none, kept_then, kept_ok, kept_err}
pub use Rattle.recovery.proofs.Parts.{volume_read, journals_refused}
pub use Rattle.recovery.proofs.RecoveredLengths.{carried_of, volume_of, found_of}
pub use Rattle.recovery.proofs.Reopened.{own_contents}
pub use Rattle.recovery.proofs.VolumeReading.{lengths_of_well_formed, files_read, lengths_after_reading}
pub use Rattle.recovery.proofs.VolumeReading.{volume_read_then, length_of_file}
-- where the bytes of files lie; and what copying a volume's files leaves of another device.
pub use Rattle.recovery.proofs.BlockRanges.{block_at-before, block_at-after}
pub use Rattle.recovery.proofs.Copied.{unwritten_none, accounts_then, copies_honest, copied_as, copies_as}
pub use Rattle.recovery.proofs.Copied.{copied_part, copied_tail}
pub use Rattle.recovery.proofs.FileBytes.{some_at, block_of, file_room, length_of_contents, part_in_block}
pub use Rattle.recovery.proofs.Migrated.{again_files, again_lengths, same_files}
pub use Rattle.recovery.proofs.Writing.{did_kept}
