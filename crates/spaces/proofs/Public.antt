-- What follows of the definitions, for the crates above: what is mapped after each edit of the spaces, and what each
-- keeps. `machine`, `cpu`, `fault` and `shootdown` take no lemma of this crate from anywhere else.
pub use Rattle.spaces.proofs.SpacesLaws.{has_space-first_spaces, has_space-place_at, has_space-with_space}
pub use Rattle.spaces.proofs.SpacesLaws.{has_space-remove, has_space-with_mapping, has_space-without_mapping}
pub use Rattle.spaces.proofs.SpacesLaws.{has_space-with_entry, get-with_space, same_spaces}
pub use Rattle.spaces.proofs.SpacesLaws.{space_at-with_space_same, space_at-with_space_other}
pub use Rattle.spaces.proofs.SpacesLaws.{space_at-remove, places-with_entry, with_rights_of}
pub use Rattle.spaces.proofs.SpacesLaws.{place_at-first_spaces, place_at-create, place_at-with_mapping}
pub use Rattle.spaces.proofs.SpacesLaws.{place_at-without_mapping, place_at-SetsRights}
pub use Rattle.spaces.proofs.SpacesLaws.{place_at-EditsEntries, place_at-with_entry, place_at-remove}
pub use Rattle.spaces.proofs.SpacesLaws.{entry_at-first_spaces, entry_at-create, entry_at-with_mapping}
pub use Rattle.spaces.proofs.SpacesLaws.{entry_at-without_mapping, entry_at-with_entry, entry_at-remove}
pub use Rattle.spaces.proofs.AreSpacesLaws.{AreSpaces-first_spaces, AreSpaces-create, AreSpaces-with_mapping}
pub use Rattle.spaces.proofs.AreSpacesLaws.{AreSpaces-without_mapping, AreSpaces-SetsRights}
pub use Rattle.spaces.proofs.AreSpacesLaws.{AreSpaces-EditsEntries, AreSpaces-with_entry, AreSpaces-remove}
pub use Rattle.spaces.proofs.AreSpacesLaws.{user_space, mappable_ends, is_some_from}
pub use Rattle.spaces.proofs.ChangeLaws.{Grows-create, Grows-with_mapping, Grows-with_entry}
pub use Rattle.spaces.proofs.ChangeLaws.{ChangesOnlyAffected-without_mapping, ChangesOnlyAffected-SetsRights}
pub use Rattle.spaces.proofs.ChangeLaws.{ChangesOnlyAffected-reclaim, ChangesOnlyAffected-set_length}
pub use Rattle.spaces.proofs.ChangeLaws.{ChangesOnlyAffected-checkpoint, touches_affected, Contains-entries_of}
pub use Rattle.spaces.proofs.RequestLaws.{judged_mapping-ok, judged_range-ok, judged_protection-ok}
pub use Rattle.spaces.proofs.ListedLaws.{in_pcids, Contains-pcids}
pub use Rattle.spaces.proofs.Members.{Contains-map, in_flat_map}
pub use Rattle.spaces.proofs.Past.{ClearsPast-refl, ClearsPast-more, EditsEntries-without_past}
