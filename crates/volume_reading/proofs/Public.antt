-- What follows of the definitions, for the crates above, which take no lemma of this crate from anywhere else.
pub use Rattle.volume_reading.proofs.Appending.{appends_both}
pub use Rattle.volume_reading.proofs.FilesFound.{recovers_to, file_at}
pub use Rattle.volume_reading.proofs.Faults.{of_device}
pub use Rattle.volume_reading.proofs.Volumes.{any_recovers}
