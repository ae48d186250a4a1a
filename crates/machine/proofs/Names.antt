-- The words that proofs use of the libraries, of other crates, and of the definitions of this one.
pub use Rattle.checkpoint.proofs.Public.{AreBacked-cleared, AreBacked-created, AreBacked-frozen, AreBacked-protected}
pub use Rattle.checkpoint.proofs.Public.{AreBacked-released, AreBacked-remove, AreBacked-rights_set, AreBacked-thawed}
pub use Rattle.checkpoint.proofs.Public.{AreBacked-with_bytes, AreBacked-with_copy, AreBacked-with_entry}
pub use Rattle.checkpoint.proofs.Public.{AreBacked-with_mapping, AreBacked-with_page, AreBacked-without_frame}
pub use Rattle.checkpoint.proofs.Public.{AreBacked-without_mapping, AreCopiesOfFrozen-release, AreRising-drop}
pub use Rattle.checkpoint.proofs.Public.{AreRising-tail, HasNotes-backed, Holds-with_page, MayBe, before_each}
pub use Rattle.checkpoint.proofs.Public.{has_page-list_any, has_space-entry, list_any-found, list_any-has_page}
pub use Rattle.checkpoint.proofs.Public.{list_any-no_page, same_page-refl, same_page-true}
pub use Rattle.checkpoint.specs.Backing.{AreBacked, HasNotes, page_at}
pub use Rattle.checkpoint.specs.Checkpoint.{AreRising, CheckpointState, Gathers, Holds, IsDirty, IsInRange, IsInSpace}
pub use Rattle.checkpoint.specs.Checkpoint.{NotesTaken, ProtectsNoted, freed_copy, fresh_checkpoint, is_copied}
pub use Rattle.checkpoint.specs.Checkpoint.{is_frozen, is_held, is_noted, is_of_page, released, same_page, thawed}
pub use Rattle.checkpoint.specs.Checkpoint.{without_copy_of, without_notes, HasDirtyEntry}
pub use Rattle.checkpoint.specs.Resizing.{IsAdded, IsGrown, PagesResized, cut_frame, cut_page, is_past}
pub use Rattle.cpu.specs.Access.{AccessRefused, Evicts, Faults, Fills, Hardware, IsAccess, IsReachable, LoadMade}
pub use Rattle.cpu.specs.Access.{StoreMade, Stores, cached_of, filled_by, hardware, serves, translated, translated_by}
pub use Rattle.cpu.specs.Access.{walk, walked, walked_to}
pub use Rattle.device.proofs.Public.{did_as, did_nothing, leaves_at_start}
pub use Rattle.device.specs.Count.{raised}
pub use Rattle.device.specs.Device.{LeavesOnly, Only, Torn}
pub use Rattle.device.specs.Did.{Did}
pub use Rattle.device.specs.declared.device.Device.{Ghosts}
pub use Rattle.fault.specs.Fault.{Brings, CopiesOut, FaultServed, allowed_place, copies_out, fault_refusal, fixed_entry}
pub use Rattle.fault.specs.Fault.{is_in_memory, place_of_fault}
pub use Rattle.fault.specs.Fixing.{FixDone, FixRefused, ReadsOnce, block_from, reads_home, refusal_of}
pub use Rattle.frames.proofs.Public.{after_set, frame_at-free, frame_at-with_bytes_other, frame_at-with_bytes_same}
pub use Rattle.frames.proofs.Public.{frame_at-with_page_other, frame_at-with_page_same, frame_at-without_frame_other}
pub use Rattle.frames.proofs.Public.{frame_at-without_frame_same, length-overwrite, page_of-with_bytes}
pub use Rattle.frames.specs.Frames.{Frame, FramesState, HasNoCopy, HasNoFrame, IsBefore, all_free, bytes_of, copy_at}
pub use Rattle.frames.specs.Frames.{frame_at, has_free, has_used, overwrite, overwrite_frame, page_of, with_bytes}
pub use Rattle.frames.specs.Frames.{with_copy, with_page, without_copies, without_frame}
pub use Rattle.journal.proofs.Public.{IsAt, advanced-newest, after_committing, all_calls, batch_before, committed-at}
pub use Rattle.journal.proofs.Public.{committed_parts, current-newest, current-oldest, current_committed}
pub use Rattle.journal.proofs.Public.{done_committed, early_calls, newest_of, older_committed, stage_at-is}
pub use Rattle.journal.proofs.Public.{stage_committed, stage_is, consistent_after, consistent_begun, consistent_failed}
pub use Rattle.journal.proofs.Public.{consistent_first, consistent_left, consistent_other, consistent_within}
pub use Rattle.journal.specs.Crash.{LeftBefore, LeftWithin}
pub use Rattle.journal.specs.Stage.{answer_at, has_writes, is_ahead, is_committed, may_share}
pub use Rattle.journal.specs.LedTo.{MayBegin}
pub use Rattle.journal.specs.Pages.{HasHome, home_of, homes_of}
pub use Rattle.journal.specs.Work.{CopyBlock, HasFailed, Nothing, Sync, TornByWork, TornFromWork, Work, WriteAt}
pub use Rattle.journal.specs.Work.{calls_of, has_done, work_at, worked}
pub use Rattle.journal.specs.WriteOut.{WriteOut, advanced_of, answer_of, begun_of, broken_after, calls_in_steps}
pub use Rattle.journal.specs.WriteOut.{has_committed, next_home, next_record, next_stage, record_at, work_of}
pub use Rattle.journal.specs.WriteOuts.{HasBlock, WriteOutsValue, batches_after, begun, current_stage, gives_way}
pub use Rattle.journal.specs.WriteOuts.{has_uncommitted, is_at, is_busy, joined, moved, moving, next_answer}
pub use Rattle.journal.specs.WriteOuts.{next_batch, next_work, none_of, outs_after, outs_home, outs_moving, outs_record}
pub use Rattle.journal.specs.WriteOuts.{shares_syncs}
pub use Rattle.journal.specs.declared.flushed.Flushed.{Flushed}
pub use Rattle.journal.specs.declared.flushed.Flushed.TheVariants.{Broken, Committed, Device, Done, Going}
pub use Rattle.journal.specs.declared.stage.Stage.{Stage}
pub use Rattle.journal.specs.declared.stage.Stage.TheVariants.{Applying, Closing, Committing, Describing, Finishing}
pub use Rattle.journal.specs.declared.stage.Stage.TheVariants.{Opening, Recording, SyncingHomes, SyncingRecords}
pub use Rattle.journal.specs.inside.Sound.{AreInOrder, IsOlder}
pub use Rattle.journal.specs.inside.Consistent.{IsConsistent}
pub use Rattle.journal.specs.inside.Tied.{IsTied}
pub use Rattle.machine.specs.Calls.{CallsOf, Counts, has_failed}
pub use Rattle.machine.specs.Devices.{DeviceAfterFix, DeviceAfter}
pub use Rattle.machine.specs.Crashes.{Begins, StepIsSafe, Throughout}
pub use Rattle.machine.specs.Durability.{AreFrozenProtected, HasPart, IsInFile, file_homes, frozen_homes}
pub use Rattle.machine.specs.Durability.{waiting_homes}
pub use Rattle.machine.specs.Durability.{within_file}
pub use Rattle.machine.specs.Fresh.{IsFresh, IsShape, fresh}
pub use Rattle.history.specs.History.{Acknowledge, Event, Mark, Memory, after, bytes_of_pages, file_bytes, files_after}
pub use Rattle.history.specs.History.{cut_file, files_from_memory, has_unmarked, is_change, is_change_of, is_touched}
pub use Rattle.history.specs.History.{lengths_after, lengths_of, memory_of, since_mark, stored}
pub use Rattle.history.specs.History.{with_event, with_length}
pub use Rattle.history.specs.Later.{AreDurable, Finds, FindsDurable, OpensTo}
pub use Rattle.machine.specs.Laws.{EachStep, FaultsAreServed, IsAccessOf, IsAnswered, IsFreeToAct, IsInside, IsLawful}
pub use Rattle.machine.specs.Laws.{LeadsTo, LoadsLatest, ServesNext, StoresAtPlace}
pub use Rattle.history.specs.Reading.{ReadsBack}
pub use Rattle.machine.specs.Laws.{observed_at_start}
pub use Rattle.machine.specs.Reached.{IsReached}
pub use Rattle.machine.specs.Refusals.{first_of, is_absent, is_msync, mapping_refusal, pages_in_file, reads_page}
pub use Rattle.machine.specs.Refusals.{lacks_frames, lacks_last_page, length_refusal, resize_refusal}
pub use Rattle.machine.specs.Refusals.{reason_against, refuse_if, served_refusal, why_not}
pub use Rattle.machine.specs.Rules.{Accesses, Acts, Answers, FixMade, FlushFailed}
pub use Rattle.machine.specs.Rules.{FlushMade, MarkMade, MayChange, ResizeMade}
pub use Rattle.machine.specs.Rules.{MayLeave, ProtectMade, ReclaimKept, ReclaimMade, Refuses, Rules}
pub use Rattle.machine.specs.Rules.{SpaceDestroyed, UnmapMade, WantsMemory}
pub use Rattle.machine.specs.Rules.{after_failure, after_record, begin_change, bytes_at_mark, bytes_with, end_change}
pub use Rattle.machine.specs.Rules.{next_page, with_batch, with_hardware, with_shootdown, with_spaces}
pub use Rattle.machine.specs.Rules.{is_page_next, mark_homes, work_asked}
pub use Rattle.machine.specs.Runs.{StepTaken, StepsTaken}
pub use Rattle.machine.specs.State.{State, Whole, capacity_of, cut_at_end, length_of, page_from}
pub use Rattle.history.specs.History.{part}
pub use Rattle.machine.specs.Steps.{StepMade, step_work, observed_first}
pub use Rattle.history.specs.Stops.{IsAcknowledged, IsNew, IsOld, Stops, StopsBefore, StopsInStep, StopsWithin}
pub use Rattle.machine.specs.Sums.{AskFor, CallsAddUp, asked_for, listed_work}
pub use Rattle.machine.specs.Observed.{Pending, Protecting, Observed, Unmapping}
pub use Rattle.machine.specs.Observed.{begun_by, begun_protect, begun_unmap, changed}
pub use Rattle.machine.specs.Observed.{ended_by, length_observed, mapped_in, offset_at}
pub use Rattle.machine.specs.Observed.{place_observed, places_in, store_at, observe}
pub use Rattle.machine.specs.Observed.{Resizing, resized_at, observe_all}
pub use Rattle.machine.specs.declared.act.Act.{Act}
pub use Rattle.machine.specs.declared.msync_flags.MsyncFlags.{MsyncFlags}
pub use Rattle.machine.specs.declared.act.Reply.{Reply}
pub use Rattle.machine.specs.declared.act.Shape.{Shape}
pub use Rattle.machine.specs.declared.act.Step.{Step}
pub use Rattle.machine.specs.declared.layers.Layers.{Layers}
pub use Rattle.machine.specs.inside.Acting.{ActDone}
pub use Rattle.machine.specs.inside.Flushing.{HasSmallMark, checkpoint_after, memory_after, released_memory}
pub use Rattle.machine.specs.inside.Flushing.{released_pages, reply_of_flush}
pub use Rattle.machine.specs.inside.Following.{Follows}
pub use Rattle.machine.specs.inside.Layers.{AnswersBy, AreLayers, AreReserved, IsAtHome, IsPageOf, IsQuiet, IsReserved}
pub use Rattle.machine.specs.inside.Layers.{KeepsReserved, state_in, whole_in, with_homes}
pub use Rattle.machine.specs.inside.Moves.{AreSpacesObserved, Begin, Beginning, BeginsChange, Bring, ChangesPlaces}
pub use Rattle.machine.specs.inside.Moves.{Changing, Copy, Destroy, Drop, End, Ending, EndsChange, Entering, Failed}
pub use Rattle.machine.specs.inside.Moves.{IsMoved, IsProcessorObserved, Leaving, Mapping, Marked, Move, Moved, Moves}
pub use Rattle.machine.specs.inside.Moves.{Performed, Remap, Replace, ReplacesProcessor, ReplacesSpaces, Running}
pub use Rattle.machine.specs.inside.Moves.{HasStepped, SameDirty, Effect, Silent}
pub use Rattle.machine.specs.inside.Moves.{CanBegin, MakesChange, SamePlaces, Store, StoresBytes, Storing, effect_of}
pub use Rattle.machine.specs.inside.Moves.{ending_of, reply_to, after_effect, after_effects}
pub use Rattle.machine.specs.inside.Sound.{AreOlderCommitted, AreSpacesSound, AreWriteOutsSound, IsMemory}
pub use Rattle.machine.specs.inside.Sound.{IsMemorySound, IsPrepared, IsSound, IsSource, IsResizable}
pub use Rattle.machine.specs.inside.Refining.{AreMarks, ArePlain, AreTouched}
pub use Rattle.history.specs.inside.Contents.{AreContentsOf}
pub use Rattle.machine.specs.inside.Refining.{HasFiles}
pub use Rattle.history.specs.inside.Contents.{HasAcknowledged}
pub use Rattle.machine.specs.inside.Refining.{HasPages, HasUncommitted, IsDurable}
pub use Rattle.machine.specs.inside.Refining.{IsArranged, IsLatest, IsLost, Refines, IsWaiting, IsWritten}
pub use Rattle.history.specs.inside.Contents.{HasParts}
pub use Rattle.machine.specs.inside.Refining.{change_in, pending_in}
pub use Rattle.history.specs.inside.Contents.{has_resized, is_resize}
pub use Rattle.mappings.specs.Judgement.{add_refusal, is_mappable, is_user_range, mapped_pages_of, pages_holding}
pub use Rattle.mappings.specs.Judgement.{protect_refusal, range_of_bytes}
pub use Rattle.mappings.specs.Places.{Places, all_mapped, allows, any_forbids, any_mapped, is_among, may_write}
pub use Rattle.mappings.specs.Places.{with_range, without_range}
pub use Rattle.mappings.specs.declared.page_range.PageRange.{PageRange}
pub use Rattle.mappings.specs.declared.place.Place.{Place}
pub use Rattle.mappings.specs.declared.place.Rights.{Rights}
pub use Rattle.page_entry.specs.Entry.{Mapped, protected_of, with_writable_of}
pub use Rattle.page_entry.specs.declared.numbers.FilePage.{FilePage}
pub use Rattle.page_entry.specs.declared.refusal.Refusal.{Refusal}
pub use Rattle.page_entry.specs.declared.refusal.Refusal.TheVariants.{Damaged, Einval, NotAVolume, OutOfMemory}
pub use Rattle.pcid_tlb.proofs.Public.{cached-All}
pub use Rattle.pcid_tlb.specs.Tlb.{TlbState, cached, evicted, filled, without_page}
pub use Rattle.pcid_tlb.specs.declared.CachedEntry.{CachedEntry}
pub use Rattle.pcid_tlb.specs.declared.Invpcid.{Invpcid}
pub use Rattle.pcid_tlb.specs.declared.Invpcid.TheVariants.{SingleContext}
pub use Rattle.recovery.specs.Counts.{HasCause}
pub use Rattle.recovery.specs.Opening.{HasOpened, HasRefused}
pub use Rattle.recovery.specs.Openings.{IsLater, RecoversAs}
pub use Rattle.recovery.specs.Volume.{files_of}
pub use Rattle.shootdown.proofs.Public.{Coheres-begun, Coheres-changed, Coheres-destroyed, Coheres-evicted}
pub use Rattle.shootdown.proofs.Public.{Coheres-filled, Coheres-finished, Coheres-fresh, Coheres-grown, Coheres-idled}
pub use Rattle.shootdown.proofs.Public.{Coheres-resumed, Coheres-stalled, Coheres-switched_to, Coheres-without_page}
pub use Rattle.shootdown.proofs.Public.{IsNoWider-remove, IsNoWider-same_places, IsShootdown-begun}
pub use Rattle.shootdown.proofs.Public.{IsShootdown-destroyed, IsShootdown-evicted, IsShootdown-filled}
pub use Rattle.shootdown.proofs.Public.{IsShootdown-finished, IsShootdown-fresh, IsShootdown-idled, IsShootdown-resumed}
pub use Rattle.shootdown.proofs.Public.{IsShootdown-stalled, IsShootdown-switched_to, IsShootdown-without_page}
pub use Rattle.shootdown.proofs.Public.{IsUnused-from_Coheres, admitted, at-with_processor, current-begun}
pub use Rattle.shootdown.proofs.Public.{current-destroyed, elsewhere, entry_at-remove_other, is_there_below}
pub use Rattle.shootdown.proofs.Public.{length-begun, length-destroyed, length-with_processor, none_unless_some}
pub use Rattle.shootdown.proofs.Public.{processor_at-begun, processor_at-destroyed, processor_at-with_other}
pub use Rattle.shootdown.proofs.Public.{processor_at-with_same, running, state-begun_one}
pub use Rattle.shootdown.specs.Calls.{HandsOut, change_refusal, destroy_refusal, idle_refusal, is_idle, is_stalled}
pub use Rattle.shootdown.specs.Calls.{lock_refusal, not_there, switch_refusal, wait_refusal}
pub use Rattle.shootdown.specs.Coherence.{Agrees, Coheres, IsNoWider, IsUnused, IsUsable}
pub use Rattle.shootdown.specs.Processors.{Processor, fresh_processor, is_concerned}
pub use Rattle.shootdown.specs.Processors.{is_running, queued, switched, notified}
pub use Rattle.shootdown.specs.Processors.{woken}
pub use Rattle.shootdown.specs.Shootdown.{IsShootdown, ShootdownState, current, destroyed, finished, fresh_shootdown}
pub use Rattle.shootdown.specs.Shootdown.{idled, interrupted, is_current, is_interrupted, is_there, not_free}
pub use Rattle.shootdown.specs.Shootdown.{not_running, processor_at, resumed, stalled, state_of, state_when_begun}
pub use Rattle.shootdown.specs.Shootdown.{switched_to, tlb_of, with_processor, with_tlb}
pub use Rattle.shootdown.specs.declared.lock.Lock.{Lock}
pub use Rattle.shootdown.specs.declared.proc_state.ProcState.{ProcState}
pub use Rattle.shootdown.specs.declared.proc_state.ProcState.TheVariants.{Active, Idle, Initiating, Interrupted}
pub use Rattle.shootdown.specs.declared.proc_state.ProcState.TheVariants.{Stalled}
pub use Rattle.spaces.proofs.Public.{AreSpaces-EditsEntries, AreSpaces-SetsRights, AreSpaces-create}
pub use Rattle.spaces.proofs.Public.{AreSpaces-first_spaces, AreSpaces-remove, AreSpaces-with_entry}
pub use Rattle.spaces.proofs.Public.{AreSpaces-with_mapping, AreSpaces-without_mapping, ChangesOnlyAffected-SetsRights}
pub use Rattle.spaces.proofs.Public.{ChangesOnlyAffected-checkpoint, ChangesOnlyAffected-reclaim}
pub use Rattle.spaces.proofs.Public.{ChangesOnlyAffected-without_mapping, Contains-map, Contains-pcids, Grows-create}
pub use Rattle.spaces.proofs.Public.{Grows-with_entry, Grows-with_mapping, entry_at-create, entry_at-first_spaces}
pub use Rattle.spaces.proofs.Public.{entry_at-remove, entry_at-with_entry, entry_at-with_mapping}
pub use Rattle.spaces.proofs.Public.{entry_at-without_mapping, get-with_space, has_space-first_spaces}
pub use Rattle.spaces.proofs.Public.{has_space-place_at, has_space-remove, has_space-with_entry, has_space-with_space}
pub use Rattle.spaces.proofs.Public.{has_space-without_mapping, in_flat_map, in_pcids, is_some_from, judged_mapping-ok}
pub use Rattle.spaces.proofs.Public.{judged_protection-ok, judged_range-ok, mappable_ends, place_at-EditsEntries}
pub use Rattle.spaces.proofs.Public.{place_at-SetsRights, place_at-create, place_at-first_spaces, place_at-remove}
pub use Rattle.spaces.proofs.Public.{place_at-with_entry, place_at-with_mapping, place_at-without_mapping}
pub use Rattle.spaces.proofs.Public.{places-with_entry, same_spaces, space_at-remove, space_at-with_space_other}
pub use Rattle.spaces.proofs.Public.{space_at-with_space_same, user_space, with_rights_of}
pub use Rattle.spaces.specs.Changes.{ChangesOnlyAffected, Keeps, is_place_of, protected_where, touches}
pub use Rattle.spaces.specs.Changes.{without_entries_of}
pub use Rattle.spaces.specs.Requests.{allowed, is_user_space, judged_mapping, judged_protection, judged_range}
pub use Rattle.spaces.specs.Requests.{maps_each, unless}
pub use Rattle.spaces.specs.Spaces.{AddressSpace, AreSpaces, IsLowestFree, SetsRights, Spaces, SpacesState, empty_space}
pub use Rattle.spaces.specs.Spaces.{entry_at, first_spaces, has_space, place_at, space_at, with_entry, with_mapping}
pub use Rattle.spaces.specs.Spaces.{with_space, without_mapping}
pub use Rattle.spaces.specs.declared.change.Change.{Change}
pub use Rattle.spaces.specs.declared.change.Change.TheVariants.{Checkpoint, Protect, Reclaim, Unmap}
pub use Rattle.std.proofs.Common.{Bool, Err, IsSome, List, MatchResult, None, Ok, Option, Result, Some, [], ap}
pub use Rattle.std.proofs.Common.{append_assoc, arith, cond, drop, eqb, false, get_or, if◌then◌else◌, inl, inr, is_err}
pub use Rattle.std.proofs.Common.{is_none, is_some, leb, ltb, length, map, nat_le, not, refl, replicate, set, slice_get}
pub use Rattle.std.proofs.Common.{slice_index, subst, suc, sum_by, sym, take, true, unwrap_or, zero, ℕ, ⊎_elim, ◌%◌}
pub use Rattle.std.proofs.Common.{◌&&◌, ◌*◌, ◌++◌, ◌+◌, ◌-◌, ◌/◌, ◌<◌, ◌==◌, ◌^◌, ◌||◌, ◌↔◌, ◌∙◌, ◌∷◌, ◌≡◌, ◌≢◌, ◌≤◌}
pub use Rattle.std.proofs.Common.{◌⊎◌}
pub use Rattle.std.proofs.Math.Seq.{take-append_seam}
pub use Rattle.std.proofs.lemmas.Bool.{and_from, and_left, and_parts, and_right, both_ways, cases_Bool, cases_eq}
pub use Rattle.std.proofs.lemmas.Bool.{cases_lt, cond-false, cond-true, cond_both, eq-eqb, eqb-false, eqb-true}
pub use Rattle.std.proofs.lemmas.Bool.{false_from_ne_true, false≢true, le-leb, leb-false, leb-true, lt-ltb, ltb-false}
pub use Rattle.std.proofs.lemmas.Bool.{ltb-true, ne_eqb, not-false, not-true, not_from_false, not_from_true, or_from}
pub use Rattle.std.proofs.lemmas.Bool.{or_left, or_parts, or_right}
pub use Rattle.std.proofs.lemmas.Bool.Decides.{nat_tests}
pub use Rattle.std.proofs.lemmas.Grind.{common_steps}
pub use Rattle.std.proofs.lemmas.List.{append-nil, drop-drop, drop-map, drop-take, drop_all, drop_at, drop_more}
pub use Rattle.std.proofs.lemmas.List.{flat_map_more, get_or-drop, get_or-map, get_or-replicate, get_or-set_other}
pub use Rattle.std.proofs.lemmas.List.{get_or-set_same, get_or_default, get_or_past, length-append, length-drop}
pub use Rattle.std.proofs.lemmas.List.{length-map, length-replicate, length-set, length-take, length-take-le}
pub use Rattle.std.proofs.lemmas.List.{set-get_or, take-append-le, take-take, take_all, take_at}
pub use Rattle.std.proofs.lemmas.List.Elements.{All-cons}
pub use Rattle.std.proofs.lemmas.List.Elements.{All-contains, All-drop, All-head, All-map, All-push, All-tail}
pub use Rattle.std.proofs.lemmas.List.Elements.{All-weaker, Contains-append_cases, Contains-append_left}
pub use Rattle.std.proofs.lemmas.List.Elements.{Contains-append_right, Contains-get_or, Contains-push}
pub use Rattle.std.proofs.lemmas.List.Elements.{Contains-push_cases, recursion_from_All}
pub use Rattle.std.proofs.lemmas.List.Folds.{list_any-append}
pub use Rattle.std.proofs.lemmas.List.Sums.{count_by-le-length, fold-append, sum_by-append, sum_by-set}
pub use Rattle.std.proofs.lemmas.Option.{get_or_from_slice_get, slice_get_within}
pub use Rattle.std.proofs.lemmas.Result.{err_from_is_err_and}
pub use Rattle.std.specs.Cmp.{nat_cmp_total, unsigned_tied}
pub use Rattle.std.specs.List.{All, AllByRecursion, Contains, count_by, filter, flat_map, fold, list_any}
pub use Rattle.std.specs.Option.{IfNone, IfSome, option_and_then, option_map, option_map_or, option_or}
pub use Rattle.std.specs.Ordering.{nat_cmp}
pub use Rattle.std.specs.Prelude.{IfErr, IfOk, IsTrue, MatchBool, min, nat_lt}
pub use Rattle.volume_codec.proofs.Public.{blocks_from-device, fits_geometry, length-block_at, length-file}
pub use Rattle.volume_codec.proofs.Public.{has_lengths-same, length-lengths_in}
pub use Rattle.volume_codec.proofs.Public.{length-padded, length-zeros, lengths_in-same}
pub use Rattle.volume_codec.proofs.Public.{length-number_text, reads_lengths, said_lengths, take-past}
pub use Rattle.volume_codec.proofs.Public.{total_pages-take_le, total_pages-take_more, zeros-nil}
pub use Rattle.volume_codec.specs.Descriptor.{AreHomes, RiseWithin}
pub use Rattle.volume_codec.specs.Files.{File, TableFile}
pub use Rattle.volume_codec.specs.Layout.{GeometryValue, IsHome, block_at, first_file_home, first_home, journals_of}
pub use Rattle.volume_codec.specs.Layout.{lengths_blocks}
pub use Rattle.volume_codec.specs.Recovery.{Batch, IsDamaged, IsNotAVolume, IsVolume, Recovers, RecoversTo, blocks_from}
pub use Rattle.volume_codec.specs.Lengths.{AreLengths, HasLengths, lengths_in, lengths_text}
pub use Rattle.volume_codec.specs.Recovery.{files_from, files_in}
pub use Rattle.volume_codec.specs.Super.{Fits, SuperValue, block_count, geometry_of, pages_of, total_pages}
pub use Rattle.volume_codec.specs.Text.{number_text, padded, zeros}
