-- What a machine may reply to each act, and its state afterwards, by cases on the reply. A reply that never occurs is
-- ⊥. Only these are left open: whether a device call succeeds; what a failed step of a write-out leaves in the range
-- that it was to write, even if the failed call is a read; which free frame or copy frame is taken; and whether memory
-- is refused. Sources: POSIX.1-2024 (mmap, munmap, mprotect, msync), Intel SDM volume 3 (4-level paging, TLBs, PCIDs),
-- Black and others 1989 (shootdown), Park, Kelly and Shen 2013 (failure-atomic msync).
use Rattle.std.specs.Prelude.{ℕ, ◌≡◌, ◌≢◌, ◌+◌, ◌/◌, ◌<◌, ◌⊎◌, nat_le, Bool, true, false, not, List, [], ◌∷◌}
use Rattle.std.specs.Prelude.{Option, Some, None, Ok, Err, slice_index_or, slice_set, if◌then◌else◌}
use Rattle.std.specs.Option.{option_map_or}
use Rattle.std.specs.FinMap as maps
use Rattle.page_entry.specs.declared.numbers.FilePage.{FilePage}
use Rattle.page_entry.specs.declared.refusal.Refusal.{Refusal}
use Rattle.page_entry.specs.declared.refusal.Refusal.TheVariants as refusals
use Rattle.mappings.specs.Places.{splits}
use Rattle.mappings.specs.declared.place.Place.{Place}
use Rattle.mappings.specs.declared.place.Rights.{Rights}
use Rattle.mappings.specs.declared.page_range.PageRange.{PageRange}
use Rattle.volume_codec.specs.Layout.{first_file_home}
use Rattle.volume_codec.specs.Lengths.{lengths_text}
use Rattle.frames.specs.Frames.{FramesState, Frame, frame_at, bytes_of, without_frame, without_copies}
use Rattle.journal.specs.Pages.{home_of, homes_of}
use Rattle.journal.specs.declared.flushed.Flushed.{Flushed}
use Rattle.journal.specs.declared.flushed.Flushed.TheVariants as flushed
use Rattle.journal.specs.Work.{Work, worked, TornByWork}
use Rattle.journal.specs.WriteOuts.{WriteOutsValue, begun as outs_begun, next_work}
use Rattle.journal.specs.WriteOuts.{next_answer, outs_after, outs_home, HasBlock}
use Rattle.spaces.specs.declared.change.Change.{Change}
use Rattle.spaces.specs.declared.change.Change.TheVariants as changes
use Rattle.spaces.specs.Changes.{without_entries_of}
use Rattle.spaces.specs.Spaces.{Spaces, space_at, empty_space, with_space, with_mapping}
use Rattle.spaces.specs.Spaces.{without_mapping, SetsRights, EditsEntries, IsLowestFree}
use Rattle.spaces.specs.Requests.{judged_range, judged_mapping, judged_protection, maps_some}
use Rattle.shootdown.specs.declared.proc_state.ProcState.TheVariants.{Interrupted, Stalled, Idle}
use Rattle.shootdown.specs.Shootdown.{ShootdownState, current, state_of, begun, stalled}
use Rattle.shootdown.specs.Shootdown.{finished, resumed, idled, switched_to, destroyed}
use Rattle.shootdown.specs.Calls.{change_refusal}
use Rattle.cpu.specs.Access.{Hardware, Loads, Stores, Fills, Evicts}
use Rattle.checkpoint.specs.Checkpoint.{CheckpointState, Holds, IsDirty, Gathers, ProtectsNoted, NotesTaken, IsInRange}
use Rattle.checkpoint.specs.Checkpoint.{IsInSpace, same_page, without_notes, without_copy_of, released, thawed}
use Rattle.checkpoint.specs.Backing.{page_at}
use Rattle.checkpoint.specs.Resizing.{PagesResized}
use Rattle.fault.specs.Fault.{FaultServed, is_in_memory, place_of_fault}
use Rattle.machine.specs.declared.act.Act.{Act}
use Rattle.machine.specs.declared.act.Act.TheVariants as acts
use Rattle.machine.specs.declared.act.Reply.{Reply}
use Rattle.machine.specs.declared.act.Reply.TheVariants as replies
use Rattle.machine.specs.declared.act.Step.{Step}
use Rattle.machine.specs.State.{State, length_of, cut_at_end, page_from}
use Rattle.machine.specs.Refusals.{reason_against, reads_page}

-- The machine with this hardware. All else is unchanged.
abbrev pub with_hardware : State → Hardware → State
with_hardware s hardware = record s { hardware = hardware }

-- The machine with these processors and this lock.
abbrev pub with_shootdown : State → ShootdownState → State
with_shootdown s shootdown = with_hardware s (record s.hardware { shootdown = shootdown })

-- The machine with these address spaces.
abbrev pub with_spaces : State → Spaces → State
with_spaces s spaces = with_hardware s (record s.hardware { spaces = spaces })

-- ---- loads, stores, fills and evictions

-- The hardware after a load, a store, a fill or an eviction of processor `p`. A page fault may refuse it.
abbrev pub Accesses : Hardware → ℕ → Act → Reply → Hardware → Type 0
Accesses h p (acts.Load va count) (replies.Bytes bytes) new = Loads h p va count (Ok bytes) new
Accesses h p (acts.Load va count) (replies.Refused why) new = Loads h p va count (Err why) new
Accesses h p (acts.Store va bytes) replies.Stored new = Stores h p va bytes (Ok tt) new
Accesses h p (acts.Store va bytes) (replies.Refused why) new = Stores h p va bytes (Err why) new
-- Fill replies Nothing if the page has no entry.
Accesses h p (acts.Fill page) replies.Filled new = Fills h p page (Ok true) new
Accesses h p (acts.Fill page) replies.Nothing new = Fills h p page (Ok false) new
Accesses h p (acts.Fill page) (replies.Refused why) new = Fills h p page (Err why) new
-- Evict replies Nothing if there is no such slot.
Accesses h p (acts.Evict slot) replies.Evicted new = Evicts h p slot (Ok true) new
Accesses h p (acts.Evict slot) replies.Nothing new = Evicts h p slot (Ok false) new
Accesses h p (acts.Evict slot) (replies.Refused why) new = Evicts h p slot (Err why) new
Accesses h p act reply new = ⊥

-- The act changes only the hardware.
abbrev pub Reaches : State → ℕ → Act → Reply → State → Type 0
Reaches s p act reply new =
    (hardware : Hardware) × Accesses s.hardware p act reply hardware × (new ≡ with_hardware s hardware)

-- ---- refusals

-- The act needs memory: it makes a space, maps pages, or has to split a mapping before pages are unmapped or have new
-- rights.
abbrev pub AsksMemory : State → Act → Type 0
AsksMemory s acts.Create = (pcid : ℕ) × IsLowestFree s.hardware.spaces pcid
AsksMemory s (acts.Map pcid va len file offset prot access) = Unit {0}
AsksMemory s (acts.Unmap pcid va len) =
    (range : PageRange) × (judged_range s.hardware.spaces pcid va len ≡ Ok range)
    × (0 < splits (space_at s.hardware.spaces pcid).places range None)
AsksMemory s (acts.Protect pcid va len prot) =
    (range : PageRange) × (judged_protection s.hardware.spaces pcid va len prot ≡ Ok range)
    × (0 < splits (space_at s.hardware.spaces pcid).places range (Some prot))
AsksMemory s act = ⊥

-- The act may be refused memory: it needs some, and there is no reason against the act.
abbrev pub WantsMemory : State → ℕ → Act → Type 0
WantsMemory s p act = (reason_against s p act ≡ None) × AsksMemory s act

-- Why an act is refused: for the first reason against it. Without a reason, memory may be refused, and no space is made
-- without a free PCID. A fault is not served if the only read of its page fails.
abbrev pub Refuses : State → ℕ → Act → Refusal → Type 0
Refuses s p acts.Create refusals.Enomem =
    (reason_against s p acts.Create ≡ None) × ((pcid : ℕ) → IsLowestFree s.hardware.spaces pcid → ⊥)
Refuses s p acts.Create refusals.OutOfMemory = WantsMemory s p acts.Create
Refuses s p (acts.Map pcid va len file offset prot access) refusals.OutOfMemory =
    WantsMemory s p (acts.Map pcid va len file offset prot access)
Refuses s p (acts.Unmap pcid va len) refusals.OutOfMemory = WantsMemory s p (acts.Unmap pcid va len)
Refuses s p (acts.Protect pcid va len prot) refusals.OutOfMemory = WantsMemory s p (acts.Protect pcid va len prot)
Refuses s p (acts.Fix va write) refusals.Device =
    (reason_against s p (acts.Fix va write) ≡ Some refusals.Device) ⊎ (reads_page s p va write ≡ true)
Refuses s p act why = reason_against s p act ≡ Some why

-- ---- spaces

-- A space was destroyed, with its mappings and its entries. If one of its entries was dirty, that is noted at the
-- frame. Each processor that may cache the PCID is notified.
pub record SpaceDestroyed (s : State) (pcid : ℕ) (new : State) : Type 0 where
  pub checkpoint : CheckpointState
  pub noted : NotesTaken s.hardware.spaces (IsInSpace pcid) s.checkpoint checkpoint
  pub done : new ≡ record s {
    hardware = record s.hardware {
      shootdown = destroyed s.hardware.shootdown pcid;
      spaces = maps.remove s.hardware.spaces pcid;
    };
    checkpoint = checkpoint;
  }

-- ---- changes begin

-- The machine after a change began: the lock is taken, invalidations are queued, and processors are interrupted.
abbrev pub begin_change : State → ℕ → Change → State
begin_change s p change = with_shootdown s (begun s.hardware.shootdown p s.hardware.spaces change)

-- ---- changes are made

-- Processor `p` holds the lock for this change, and no processor is interrupted any more.
pub record MayChange (s : State) (p : ℕ) (change : Change) : Type 0 where
  pub allowed : change_refusal s.hardware.shootdown p ≡ None
  pub lock : s.hardware.shootdown.lock ≡ Some (record { holder = p; change = change })

-- The machine after a change was made. The initiator carried out its own queue and runs again, and the lock is free.
abbrev pub end_change : State → ℕ → Spaces → FramesState → CheckpointState → State
end_change s p spaces memory checkpoint = record s {
  hardware = record { shootdown = finished s.hardware.shootdown p; spaces = spaces; memory = memory };
  checkpoint = checkpoint;
}

-- Processor `p` made the unmap that it had begun. The pages are no longer mapped, and their entries are gone. If an
-- entry was dirty, that is noted at its frame.
pub record UnmapMade (s : State) (p : ℕ) (new : State) : Type 0 where
  pub pcid : ℕ
  pub range : PageRange
  pub may : MayChange s p (changes.Unmap pcid range)
  pub checkpoint : CheckpointState
  pub noted : NotesTaken s.hardware.spaces (IsInRange pcid range) s.checkpoint checkpoint
  pub done : new ≡ end_change s p (without_mapping s.hardware.spaces pcid range) s.hardware.memory checkpoint

-- Processor `p` made the protect that it had begun. The mapped pages have the rights. Without the right to write, their
-- entries are no longer writable.
pub record ProtectMade (s : State) (p : ℕ) (new : State) : Type 0 where
  pub pcid : ℕ
  pub range : PageRange
  pub rights : Rights
  pub may : MayChange s p (changes.Protect pcid range rights)
  pub spaces : Spaces
  pub rights_set : SetsRights pcid range rights s.hardware.spaces spaces
  pub done : new ≡ end_change s p spaces s.hardware.memory s.checkpoint

-- Rule: kept: A page must stay in memory if it is dirty, if it belongs to an unfinished batch, if bytes were stored
-- past its file's end, or if the machine is broken.
-- The page in a frame may leave memory. It is clean, and its batches are done. Its home block has its bytes, since
-- nothing was stored past the file's end. The machine is not broken.
pub record MayLeave (s : State) (owner : FilePage) (frame : ℕ) : Type 0 where
  pub held : Holds s.hardware.memory frame owner
  pub clean : IsDirty s.hardware.spaces s.checkpoint frame → ⊥
  pub written : HasBlock s.write_outs (home_of s.table owner) → ⊥
  pub plain : bytes_of (frame_at s.hardware.memory frame)
      ≡ cut_at_end s owner (bytes_of (frame_at s.hardware.memory frame))
  pub whole : s.write_outs.broken ≡ false

-- Processor `p` made the reclaim that it had begun. The page is no longer in memory, its entries are gone, and its
-- frame is free.
pub record ReclaimMade (s : State) (p : ℕ) (new : State) : Type 0 where
  pub owner : FilePage
  pub may : MayChange s p (changes.Reclaim owner)
  pub frame : ℕ
  pub leaves : MayLeave s owner frame
  pub spaces : Spaces
  pub cleared : EditsEntries (without_entries_of owner s.hardware.spaces) s.hardware.spaces spaces
  pub done : new ≡ end_change s p spaces (without_frame s.hardware.memory frame) s.checkpoint

-- Processor `p` ended the reclaim that it had begun, but the page may not leave memory. Spaces and frames are
-- unchanged.
pub record ReclaimKept (s : State) (p : ℕ) (new : State) : Type 0 where
  pub owner : FilePage
  pub may : MayChange s p (changes.Reclaim owner)
  pub stays : (frame : ℕ) → MayLeave s owner frame → ⊥
  pub done : new ≡ end_change s p s.hardware.spaces s.hardware.memory s.checkpoint

-- Processor `p` made the change of a file's length that it had begun. Pages past the end left memory, and bytes past it
-- are zero. The pages that a growth touches are in memory and dirty.
pub record ResizeMade (s : State) (p : ℕ) (new : State) : Type 0 where
  pub file : ℕ
  pub to : ℕ
  pub may : MayChange s p (changes.SetLength file to)
  pub spaces : Spaces
  pub memory : FramesState
  pub checkpoint : CheckpointState
  pub pages : PagesResized s.hardware.spaces s.hardware.memory s.checkpoint file (length_of s file) to
      spaces memory checkpoint
  pub done : new ≡ record (end_change s p spaces memory checkpoint) {
    lengths = slice_set s.lengths file to;
    resized = true;
  }

-- The home blocks that a mark of these pages writes. The one of the lengths comes first, if a length was set since the
-- last mark.
abbrev pub mark_homes : State → List FilePage → List ℕ
mark_homes s pages = homes_of s.table s.resized pages

-- The batches after a mark of these home blocks. There is one more, unless there is nothing to write or the machine is
-- broken.
abbrev pub with_batch : State → ℕ → List ℕ → WriteOutsValue
with_batch s mark [] = s.write_outs
with_batch s mark (home ∷ homes) =
    if s.write_outs.broken then s.write_outs else outs_begun s.write_outs mark (home ∷ homes)

-- Processor `p` made the mark of the commit that it had begun. The dirty pages are gathered, and their entries
-- protected. A batch begins with these pages, and with the lengths if one was set. It does not begin if it would be
-- empty, or if the machine is broken.
pub record MarkMade (s : State) (p number : ℕ) (new : State) : Type 0 where
  pub may : MayChange s p changes.Checkpoint
  -- Marks are counted from 1.
  pub next : number ≡ s.marks + 1
  -- The dirty pages are gathered, and frozen unless the machine is broken.
  pub pages : List FilePage
  pub noted : CheckpointState
  pub gathered : Gathers s.hardware.spaces s.hardware.memory s.checkpoint noted (not s.write_outs.broken) pages
  -- Each entry of a gathered page, dirty or not, loses the right to write and the dirty bit.
  pub spaces : Spaces
  pub protected : ProtectsNoted noted s.hardware.spaces spaces
  pub done : new ≡ record (end_change s p spaces s.hardware.memory (without_notes noted)) {
    write_outs = with_batch s number (mark_homes s pages);
    marks = number;
    resized = false;
  }

-- ---- faults

-- A fault of processor `p` at `va` was served. The access was a store if `write`, and else a load. Its page is in
-- memory and has a present entry.
pub record FixMade (s : State) (disk : List ℕ) (p va : ℕ) (write : Bool) (new : State) : Type 0 where
  -- The place to which the address leads.
  pub place : Place
  pub leads : place_of_fault s.hardware.spaces (current s.hardware.shootdown p) va write ≡ Ok place
  pub spaces : Spaces
  pub memory : FramesState
  pub served : FaultServed s.hardware.spaces s.hardware.memory s.checkpoint (current s.hardware.shootdown p)
      (va / 4096) place write (page_from s disk (page_at place)) spaces memory
  pub done : new ≡ with_hardware s (record s.hardware { spaces = spaces; memory = memory })

-- ---- write-outs

-- The page with the next record: the first frozen page.
abbrev pub next_page : State → FilePage
next_page s = slice_index_or s.checkpoint.frozen 0 (record { file = 0; page = 0 })

-- The bytes of the first of these frames that holds the page, or `other` if none does.
abbrev pub bytes_with : FilePage → List (Option Frame) → List ℕ → List ℕ
bytes_with owner [] other = other
bytes_with owner (None ∷ frames) other = bytes_with owner frames other
bytes_with owner (Some frame ∷ frames) other =
    if same_page owner frame.page then frame.bytes else bytes_with owner frames other

-- A page's bytes at its mark: those in its copy, if it was copied, or else those in its frame.
abbrev pub bytes_at_mark : FramesState → FilePage → List ℕ
bytes_at_mark memory owner = bytes_with owner memory.copies (bytes_with owner memory.frames [])

-- Whether the next record is a page's, and not that of the lengths.
abbrev pub is_page_next : State → Bool
is_page_next s =
    option_map_or (nat_le (first_file_home s.table.layout s.table.slots)) (outs_home s.write_outs) false

-- The next record: the lengths, or the page's bytes up to the file's end, then zeros.
abbrev pub next_record : State → List ℕ
next_record s =
    if is_page_next s then cut_at_end s (next_page s) (bytes_at_mark s.hardware.memory (next_page s))
    else lengths_text s.lengths

-- What the next step of the write-outs requests from the device.
abbrev pub work_asked : State → Work
work_asked s = next_work s.write_outs (next_record s)

-- The machine after the record of a page was written. The page is released, and its copy frame is free.
abbrev pub after_record : State → State
after_record s = record s {
  hardware = record s.hardware { memory = without_copy_of s.hardware.memory (next_page s) };
  checkpoint = released s.checkpoint;
}

-- The machine after a device call of a write-out failed. No page is frozen any more, and all copy frames are free.
abbrev pub after_failure : State → State
after_failure s = record s {
  hardware = record s.hardware { memory = without_copies s.hardware.memory };
  checkpoint = thawed s.checkpoint;
  write_outs = outs_after s.write_outs flushed.Device;
}

-- Processor `p` made the next step of the write-outs, no device call of it failed, and `answer` is its answer.
pub record FlushMade (s : State) (disk : List ℕ) (p : ℕ) (answer : Flushed) (new : State) (disk' : List ℕ)
    : Type 0 where
  pub allowed : reason_against s p acts.Flush ≡ None
  pub some : s.write_outs.batches ≢ []
  pub answered : next_answer s.write_outs ≡ answer
  pub done : new ≡ record (if is_page_next s then after_record s else s)
      { write_outs = outs_after s.write_outs (next_answer s.write_outs) }
  pub disk_done : disk' ≡ worked disk (work_asked s)

-- Processor `p` made the next step of the write-outs, and a device call of it failed. A range that the step was to
-- write may have any bytes. The machine is broken.
pub record FlushFailed (s : State) (disk : List ℕ) (p : ℕ) (new : State) (disk' : List ℕ) : Type 0 where
  pub allowed : reason_against s p acts.Flush ≡ None
  pub some : s.write_outs.batches ≢ []
  pub done : new ≡ after_failure s
  pub disk_torn : TornByWork (work_asked s) disk disk'

-- ---- acts

-- The effect of an act of processor `p` that is not refused, by its reply. `disk` is what a read of the disk returns.
abbrev pub Does : State → List ℕ → ℕ → Act → Reply → State → Type 0
-- Switch: the processor carries out its queue and enters the space of this PCID. If `keep`, the TLB's entries of that
-- PCID remain.
Does s disk p (acts.Switch pcid keep) replies.Switched new =
    new ≡ with_shootdown s (switched_to s.hardware.shootdown p pcid keep)
-- Ack: an interrupted processor stalls. In any other state nothing happens.
Does s disk p acts.Ack replies.Acked new =
    (state_of s.hardware.shootdown p ≡ Interrupted) × (new ≡ with_shootdown s (stalled s.hardware.shootdown p))
Does s disk p acts.Ack replies.Nothing new = (state_of s.hardware.shootdown p ≢ Interrupted) × (new ≡ s)
-- Resume and Wake: a stalled or an idle processor carries out its queue and runs again. In any other state nothing
-- happens.
Does s disk p acts.Resume replies.Resumed new =
    (state_of s.hardware.shootdown p ≡ Stalled) × (new ≡ with_shootdown s (resumed s.hardware.shootdown p))
Does s disk p acts.Resume replies.Nothing new = (state_of s.hardware.shootdown p ≢ Stalled) × (new ≡ s)
Does s disk p acts.Wake replies.Woken new =
    (state_of s.hardware.shootdown p ≡ Idle) × (new ≡ with_shootdown s (resumed s.hardware.shootdown p))
Does s disk p acts.Wake replies.Nothing new = (state_of s.hardware.shootdown p ≢ Idle) × (new ≡ s)
-- Idle: the processor becomes idle. No change interrupts it until it wakes.
Does s disk p acts.Idle replies.Idled new = new ≡ with_shootdown s (idled s.hardware.shootdown p)
-- Fix: the fault is served.
Does s disk p (acts.Fix va write) replies.Fixed new = FixMade s disk p va write new
-- Create: makes a space that maps nothing, with the lowest free PCID.
Does s disk p acts.Create (replies.Space pcid) new =
    IsLowestFree s.hardware.spaces pcid × (new ≡ with_spaces s (with_space s.hardware.spaces pcid empty_space))
Does s disk p (acts.Destroy pcid) replies.Destroyed new = SpaceDestroyed s pcid new
-- Map: maps the pages of `len` bytes of a space, from `va` on, to a file, from `offset` on. The first page of the file
-- is `pages.1`. No entry is made.
Does s disk p (acts.Map pcid va len file offset prot access) replies.Mapped new =
    (pages : PageRange × ℕ) × (judged_mapping s.hardware.spaces pcid va len offset ≡ Ok pages)
    × (new ≡ with_spaces s (with_mapping s.hardware.spaces pcid pages.0
    (record { file = file; page = pages.1; rights = prot; access = access })))
-- Unmap: begins to unmap the pages of `len` bytes of a space, from `va` on, if one of them is mapped. Otherwise nothing
-- happens.
Does s disk p (acts.Unmap pcid va len) replies.Begun new =
    (range : PageRange) × (judged_range s.hardware.spaces pcid va len ≡ Ok range)
    × (maps_some s.hardware.spaces pcid range ≡ true) × (new ≡ begin_change s p (changes.Unmap pcid range))
Does s disk p (acts.Unmap pcid va len) replies.Fine new =
    (range : PageRange) × (judged_range s.hardware.spaces pcid va len ≡ Ok range)
    × (maps_some s.hardware.spaces pcid range ≡ false) × (new ≡ s)
-- Protect: begins to change the rights of the pages of `len` bytes of a space, from `va` on.
Does s disk p (acts.Protect pcid va len prot) replies.Begun new =
    (range : PageRange) × (judged_protection s.hardware.spaces pcid va len prot ≡ Ok range)
    × (new ≡ begin_change s p (changes.Protect pcid range prot))
-- Reclaim: begins to remove a page of a file from memory, if a frame has it. Otherwise nothing happens.
Does s disk p (acts.Reclaim file page) replies.Begun new =
    (is_in_memory s.hardware.memory (record { file = file; page = page }) ≡ true)
    × (new ≡ begin_change s p (changes.Reclaim (record { file = file; page = page })))
Does s disk p (acts.Reclaim file page) replies.Nothing new =
    (is_in_memory s.hardware.memory (record { file = file; page = page }) ≡ false) × (new ≡ s)
-- SetLength: begins to change the length of a file, if the new one differs.
Does s disk p (acts.SetLength file to) replies.Begun new =
    (to ≢ length_of s file) × (new ≡ begin_change s p (changes.SetLength file to))
Does s disk p (acts.SetLength file to) replies.Fine new = (to ≡ length_of s file) × (new ≡ s)
-- Msync: begins a commit of all stores, even of those outside the range. `va`, `len` and `flags` only decide whether
-- the act is refused.
Does s disk p (acts.Msync va len flags) replies.Begun new = new ≡ begin_change s p changes.Checkpoint
-- Change: makes the change that the processor had begun, and the reply names its kind. If the lock is free, there is no
-- change.
Does s disk p acts.Change replies.Unmapped new = UnmapMade s p new
Does s disk p acts.Change replies.Protected new = ProtectMade s p new
Does s disk p acts.Change replies.Reclaimed new = ReclaimMade s p new
Does s disk p acts.Change replies.Kept new = ReclaimKept s p new
Does s disk p acts.Change replies.Resized new = ResizeMade s p new
Does s disk p acts.Change (replies.Marked number) new = MarkMade s p number new
Does s disk p acts.Change replies.Nothing new = (s.hardware.shootdown.lock ≡ None) × (new ≡ s)
-- Flush: replies Nothing if each batch is done.
Does s disk p acts.Flush replies.Nothing new = (s.write_outs.batches ≡ []) × (new ≡ s)
Does s disk p act reply new = ⊥

-- The reply to an act of processor `p`, and the machine after it. A refused act leaves the machine unchanged.
abbrev pub Answers : State → List ℕ → ℕ → Act → Reply → State → Type 0
Answers s disk p act (replies.Refused why) new = Refuses s p act why × (new ≡ s)
Answers s disk p act reply new = (reason_against s p act ≡ None) × Does s disk p act reply new

-- One act of a processor. `disk` and `disk'` are what a read of the disk returns before and after it. Only write-outs
-- write.
abbrev pub Acts : State → List ℕ → ℕ → Act → Reply → State → List ℕ → Type 0
Acts s disk p (acts.Load va count) reply new disk' = Reaches s p (acts.Load va count) reply new × (disk' ≡ disk)
Acts s disk p (acts.Store va bytes) reply new disk' = Reaches s p (acts.Store va bytes) reply new × (disk' ≡ disk)
Acts s disk p (acts.Fill page) reply new disk' = Reaches s p (acts.Fill page) reply new × (disk' ≡ disk)
Acts s disk p (acts.Evict slot) reply new disk' = Reaches s p (acts.Evict slot) reply new × (disk' ≡ disk)
-- The next step of the write-outs: Going, Committed or Done if its device calls succeed, Device if one fails.
Acts s disk p acts.Flush (replies.Refused refusals.Device) new disk' = FlushFailed s disk p new disk'
Acts s disk p acts.Flush replies.Going new disk' = FlushMade s disk p flushed.Going new disk'
Acts s disk p acts.Flush (replies.Committed number) new disk' = FlushMade s disk p (flushed.Committed number) new disk'
Acts s disk p acts.Flush (replies.Done number) new disk' = FlushMade s disk p (flushed.Done number) new disk'
Acts s disk p act reply new disk' = Answers s disk p act reply new × (disk' ≡ disk)

-- The rules for a step, which contains the processor and the act.
abbrev pub Rules : State → List ℕ → Step → Reply → State → List ℕ → Type 0
Rules s disk step reply new disk' = Acts s disk step.p step.act reply new disk'
