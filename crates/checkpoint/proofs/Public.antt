-- What follows of the definitions, for the crates above: that entries map frames that hold their pages after each
-- change of the spaces, of the frames and of what is frozen; and what is gathered and released. `machine` and `fault`
-- take no lemma of this crate from anywhere else.
pub use Rattle.checkpoint.proofs.SpacesLaws.{MayBe, AreBacked-created, AreBacked-with_mapping}
pub use Rattle.checkpoint.proofs.SpacesLaws.{AreBacked-without_mapping, AreBacked-rights_set}
pub use Rattle.checkpoint.proofs.SpacesLaws.{AreBacked-cleared, AreBacked-with_entry, AreBacked-remove}
pub use Rattle.checkpoint.proofs.BackingLaws.{AreBacked-with_page, AreBacked-with_copy, AreBacked-with_bytes}
pub use Rattle.checkpoint.proofs.BackingLaws.{AreBacked-without_frame, AreBacked-frozen, AreBacked-thawed}
pub use Rattle.checkpoint.proofs.BackingLaws.{Holds-with_page, HasNotes-backed}
pub use Rattle.checkpoint.proofs.ReleaseLaws.{AreBacked-protected, AreBacked-released, AreCopiesOfFrozen-release}
pub use Rattle.checkpoint.proofs.Noting.{has_space-entry}
pub use Rattle.checkpoint.proofs.Listed.{walk-next}
pub use Rattle.checkpoint.proofs.Searches.{AreRising-tail, AreRising-drop, before_each}
pub use Rattle.checkpoint.proofs.PagesInUse.{same_page-true, same_page-refl, list_any-has_page}
pub use Rattle.checkpoint.proofs.PagesInUse.{has_page-list_any, list_any-no_page, list_any-found}
pub use Rattle.checkpoint.proofs.Lists.{Passing-list_any}
