-- What other crates use of the proofs of this one: how runs go on, lengths, what is put when one becomes another,
-- refusals, and contents that have the files after a history.
pub use Rattle.pager.proofs.Runs.{come_on, gone_on, left_since}
pub use Rattle.pager.proofs.Capacities.{are_set, length_fits}
pub use Rattle.pager.proofs.Ends.{MayReach, lengths_put, at_other, added_to, added_some, added_none, none_behind}
pub use Rattle.pager.proofs.Ends.{rises_grown, first_same, count_grown, ends_grown}
pub use Rattle.pager.proofs.Ends.{rises_shrunk, first_there, count_shrunk, ends_shrunk}
pub use Rattle.pager.proofs.Resizing.{one_file}
pub use Rattle.pager.proofs.Outs.{committed_steps}
pub use Rattle.pager.proofs.Setting.{if_err, no_call, nothing_against, ok_as, on_ok, other_reason, room_free}
pub use Rattle.pager.proofs.Histories.{IsQuiet, have_more, lengths_more, not_acknowledged}
pub use Rattle.pager.proofs.Files.{page_allowed, first_none}
pub use Rattle.pager.proofs.Having.{IsInFile, home_below, starts, lengths_start, named_start, lengths_may, parts_are}
pub use Rattle.pager.proofs.Having.{stored_has, Grows, Shrinks, stays_in, lengths_resized, resized_has}
pub use Rattle.pager.proofs.Overlaid.{over_there, over_elsewhere, zeros_there, zeros_elsewhere, fewer_kept, fewer_gone}
