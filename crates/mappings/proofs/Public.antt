-- What follows of the definitions, for `machine`, which takes no lemma of this crate from anywhere else.
pub use Rattle.mappings.proofs.PlacesLaws.{Decides-any_in_range}
