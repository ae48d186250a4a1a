-- What follows of the definitions, for the crates above, which take no lemma of this crate from anywhere else: the
-- memory, lengths and marks of histories that grow, pages that are cut, and contents that have the files after one.
pub use Rattle.history.proofs.Lists.{some_same, none_some, contains_none, first_or, only_one, contains_head}
pub use Rattle.history.proofs.Lists.{contains_cons, contains_unmapped, contains_drop, nothing_mapped, flat_map-append}
pub use Rattle.history.proofs.Padding.{nothing_padded, take-padded_take}
pub use Rattle.history.proofs.Places.{capacity_at, total_pages-before, total_pages-within}
pub use Rattle.history.proofs.FileBytes.{length-file_bytes, length-page_of, plain_page, named_from, lengths_from, back}
pub use Rattle.history.proofs.FileBytes.{file_bytes-next, file_bytes-from, drop-take-sub, take_comm, AreBlocks}
pub use Rattle.history.proofs.FileBytes.{drop-blocks_from, page_in_blocks}
pub use Rattle.history.proofs.Histories.{after-append, after_store, stored_there, stored_elsewhere, length-stored}
pub use Rattle.history.proofs.Histories.{touched_mark, resized_mark, touched_there, touched_elsewhere, AreQuiet}
pub use Rattle.history.proofs.Histories.{quiet_nothing, quiet_acknowledge, lengths_store, resized_store}
pub use Rattle.history.proofs.Histories.{unmarked_by_touched, unmarked_by_resized, marked_by, after_mark, after_marked}
pub use Rattle.history.proofs.Histories.{lengths_mark, lengths_marked, acknowledge_same, only_itself}
pub use Rattle.history.proofs.Histories.{acknowledge_no_mark, only_marked, IsQuiet, quiet_acknowledges, quiet_marks}
pub use Rattle.history.proofs.Histories.{IsUntouched, quiet_untouched, begins_more, in_history, acknowledged_more}
pub use Rattle.history.proofs.Histories.{some_touched, AreCalm, calm_of}
pub use Rattle.history.proofs.Cuts.{cut, length-cut, cut-whole, cut-none, take-cut, cut-later, cut_file-there}
pub use Rattle.history.proofs.Cuts.{cut_file-other, length-cut_file, after_set_length, lengths_set_length}
pub use Rattle.history.proofs.Cuts.{resized_set_length, touched_now, touched_still, touched_grown, untouched_before}
pub use Rattle.history.proofs.Cuts.{touched_cases, length_marks, length_acknowledges, WasUntouched, IsGrown}
pub use Rattle.history.proofs.FileParts.{same_bytes, in_table, HasPartsFrom, same_files, files_have, prefix_has}
pub use Rattle.history.proofs.FileParts.{files_unchanged, found_unchanged}
pub use Rattle.history.proofs.Later.{found_permanent, found_durable}
