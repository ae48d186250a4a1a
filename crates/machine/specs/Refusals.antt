-- Why an act is refused. If several reasons hold, the first in this order is answered. For the calls on mappings, the
-- reasons are those of POSIX.1-2024; the order is this project's own. The reasons of processors and of the lock are
-- those of the shootdown.
use Rattle.std.specs.Prelude.{ℕ, ◌+◌, ◌-◌, ◌/◌, ◌%◌, ◌^◌, ◌==◌, ◌&&◌, ◌||◌, not, nat_lt}
use Rattle.std.specs.Prelude.{nat_le, Bool, true, false, List, [], ◌∷◌, count_by, length}
use Rattle.std.specs.Prelude.{Option, Some, None, is_none, Result, Ok, Err, if◌then◌else◌}
use Rattle.std.specs.Option.{option_or}
use Rattle.page_entry.specs.declared.refusal.Refusal.{Refusal}
use Rattle.page_entry.specs.declared.refusal.Refusal.TheVariants as refusals
use Rattle.mappings.specs.declared.place.Place.{Place}
use Rattle.mappings.specs.declared.place.Rights.{Rights}
use Rattle.mappings.specs.declared.page_range.PageRange.{PageRange}
use Rattle.mappings.specs.Judgement.{add_refusal}
use Rattle.volume_codec.specs.Files.{TableFile}
use Rattle.volume_codec.specs.Layout.{lengths_blocks}
use Rattle.volume_codec.specs.Super.{pages_of}
use Rattle.spaces.specs.Spaces.{space_at}
use Rattle.spaces.specs.Requests.{judged_range, judged_mapping, judged_protection, maps_each}
use Rattle.shootdown.specs.Shootdown.{current, not_running, not_free}
use Rattle.shootdown.specs.Calls.{not_there, is_stalled, is_idle, wait_refusal, idle_refusal}
use Rattle.shootdown.specs.Calls.{switch_refusal, change_refusal, destroy_refusal}
use Rattle.checkpoint.specs.Backing.{page_at}
use Rattle.fault.specs.Fault.{is_in_memory, place_of_fault, fault_refusal}
use Rattle.journal.specs.WriteOuts.{is_busy}
use Rattle.machine.specs.declared.act.Act.{Act}
use Rattle.machine.specs.declared.msync_flags.MsyncFlags.{MsyncFlags}
use Rattle.machine.specs.declared.act.Act.TheVariants as acts
use Rattle.machine.specs.State.{State, capacity_of, length_of}

-- This reason, if the condition holds.
abbrev pub refuse_if : Bool → Refusal → Option Refusal
refuse_if true why = Some why
refuse_if false why = None

-- The first of these reasons.
abbrev pub first_of : List (Option Refusal) → Option Refusal
first_of [] = None
first_of (reason ∷ reasons) = option_or reason (first_of reasons)

-- The reason of a refusal, if there is one.
abbrev pub why_not : {X : Type 0} → Result X Refusal → Option Refusal
why_not (Ok x) = None
why_not (Err why) = Some why

-- The refusal to map pages of a file, after the arguments' numbers were judged.
abbrev pub mapping_refusal : State → ℕ → ℕ → Rights → Rights → Result (PageRange × ℕ) Refusal → Option Refusal
mapping_refusal s pcid file prot access (Err why) = Some why
mapping_refusal s pcid file prot access (Ok pages) =
    first_of (refuse_if (nat_le (length s.table.files) file) refusals.NoFile
    ∷ add_refusal (space_at s.hardware.spaces pcid).places pages.0
    (record { file = file; page = pages.1; rights = prot; access = access }) ∷ [])

-- The number of pages of the file with this number, at its capacity.
abbrev pub pages_in_file : List TableFile → ℕ → ℕ
pages_in_file [] file = 0
pages_in_file (f ∷ fs) file = if file == 0 then pages_of f.capacity else pages_in_file fs (file - 1)

-- Whether the flags are exactly one of MS_ASYNC (1) and MS_SYNC (4), with or without MS_INVALIDATE (2), and no other
-- bit.
abbrev pub are_of_msync : MsyncFlags → Bool
are_of_msync flags = flags.0 == 1 || flags.0 == 3 || flags.0 == 4 || flags.0 == 6

-- Whether the flags of an msync are valid, and its range begins where a page begins and does not extend past 2^47.
abbrev pub is_msync : ℕ → ℕ → MsyncFlags → Bool
is_msync va len flags = are_of_msync flags && va % 4096 == 0 && nat_le (va + len) (2 ^ 47)

-- The refusal of a file's new length, whatever the present length. The reasons are, in order: the volume's layout has
-- no block for lengths; there is no such file; the file's home blocks do not suffice.
abbrev pub length_refusal : State → ℕ → ℕ → Option Refusal
length_refusal s file to =
    first_of (refuse_if (lengths_blocks s.table.layout == 0) refusals.Einval
    ∷ refuse_if (nat_le (length s.table.files) file) refusals.NoFile
    ∷ refuse_if (nat_lt (capacity_of s file) to) refusals.Einval ∷ [])

-- Rule: notresident: A file can't grow if it ends within a page that isn't in memory.
-- Whether a file would grow from inside a page that is not in memory.
abbrev pub lacks_last_page : State → ℕ → ℕ → Bool
lacks_last_page s file to =
    nat_lt (length_of s file) to && not (length_of s file % 4096 == 0)
    && not (is_in_memory s.hardware.memory (record { file = file; page = length_of s file / 4096 }))

-- Whether the number of free frames is less than the number of pages that a file's growth adds.
abbrev pub lacks_frames : State → ℕ → ℕ → Bool
lacks_frames s file to =
    nat_lt (count_by is_none s.hardware.memory.frames) (pages_of to - pages_of (length_of s file))

-- The refusal of a change of a file's length. The reasons are, in order: the machine is broken; a batch is not done;
-- the page in which the file ends is not in memory; too few frames are free.
abbrev pub resize_refusal : State → ℕ → ℕ → Option Refusal
resize_refusal s file to =
    first_of (refuse_if s.write_outs.broken refusals.Broken
    ∷ refuse_if (nat_lt 0 (length s.write_outs.batches)) refusals.Busy
    ∷ refuse_if (lacks_last_page s file to) refusals.NotResident
    ∷ refuse_if (lacks_frames s file to) refusals.NoFrame ∷ [])

-- The refusal of a fault, whether or not its address leads to a place.
abbrev pub served_refusal : State → Bool → Result Place Refusal → Option Refusal
served_refusal s write (Err why) = Some why
served_refusal s write (Ok place) =
    fault_refusal s.hardware.memory s.checkpoint s.write_outs.broken place (length_of s place.file) write

-- The reasons against an act of a running processor while the lock is free, in this order.
abbrev pub reasons_when_free : State → ℕ → Act → List (Option Refusal)
reasons_when_free s p (acts.Destroy pcid) = destroy_refusal s.hardware.shootdown s.hardware.spaces pcid ∷ []
-- Map: the space, the range or the offset; there is no such file; writing is requested, but the file was opened for
-- reading only; a page of the range is already mapped.
reasons_when_free s p (acts.Map pcid va len file offset prot access) =
    mapping_refusal s pcid file prot access (judged_mapping s.hardware.spaces pcid va len offset) ∷ []
-- Unmap: the space or the range.
reasons_when_free s p (acts.Unmap pcid va len) = why_not (judged_range s.hardware.spaces pcid va len) ∷ []
-- Protect: the space or the range; a page of the range is not mapped; writing is requested, but the file of a page was
-- opened for reading only.
reasons_when_free s p (acts.Protect pcid va len prot) =
    why_not (judged_protection s.hardware.spaces pcid va len prot) ∷ []
-- Reclaim: there is no such file; the file has no such page.
reasons_when_free s p (acts.Reclaim file page) =
    refuse_if (nat_le (length s.table.files) file) refusals.NoFile
    ∷ refuse_if (nat_le (pages_in_file s.table.files file) page) refusals.Einval ∷ []
-- SetLength: the reasons against the length itself; if it differs from the file's length, those against a change.
reasons_when_free s p (acts.SetLength file to) =
    length_refusal s file to
    ∷ (if to == length_of s file then None else resize_refusal s file to) ∷ []
-- Msync: the range or the flags; a page of the range is not mapped in the current space; the machine is broken; no
-- further batch may begin, or the number of marks has reached 2^32 - 1.
reasons_when_free s p (acts.Msync va len flags) =
    refuse_if (not (is_msync va len flags)) refusals.Einval
    ∷ refuse_if (not (maps_each s.hardware.spaces (current s.hardware.shootdown p) va len)) refusals.Enomem
    ∷ refuse_if s.write_outs.broken refusals.Broken
    ∷ refuse_if (is_busy s.write_outs || nat_le (2 ^ 32 - 1) s.marks) refusals.Busy ∷ []
-- Fix: the reason against the address (`place_of_fault`), then that against the place (`fault_refusal`).
reasons_when_free s p (acts.Fix va write) =
    served_refusal s write (place_of_fault s.hardware.spaces (current s.hardware.shootdown p) va write) ∷ []
reasons_when_free s p act = []

-- The first reason against an act of processor `p`. Loads, stores, fills and evictions have their own reasons, those of
-- the processor and its tables.
abbrev pub reason_against : State → ℕ → Act → Option Refusal
reason_against s p (acts.Switch pcid keep) = switch_refusal s.hardware.shootdown s.hardware.spaces p pcid
reason_against s p acts.Idle = idle_refusal s.hardware.shootdown p
reason_against s p acts.Wake = wait_refusal is_idle s.hardware.shootdown p
reason_against s p acts.Resume = wait_refusal is_stalled s.hardware.shootdown p
reason_against s p acts.Ack = not_there s.hardware.shootdown p
reason_against s p acts.Change = change_refusal s.hardware.shootdown p
-- Flush: there is no such processor; it is not running; the machine is broken.
reason_against s p acts.Flush =
    first_of (not_running s.hardware.shootdown p ∷ refuse_if s.write_outs.broken refusals.Broken ∷ [])
reason_against s p acts.Create = not_free s.hardware.shootdown p
-- Any other act: the reasons of `not_free`, then the act's own.
reason_against s p act = first_of (not_free s.hardware.shootdown p ∷ reasons_when_free s p act)

-- Whether a fault leads to a page that is not in memory.
abbrev pub is_absent : State → Result Place Refusal → Bool
is_absent s (Ok place) = not (is_in_memory s.hardware.memory (page_at place))
is_absent s (Err why) = false

-- Whether serving a fault reads the device: there is no reason against it, and the page is not in memory.
abbrev pub reads_page : State → ℕ → ℕ → Bool → Bool
reads_page s p va write =
    is_none (reason_against s p (acts.Fix va write))
    && is_absent s (place_of_fault s.hardware.spaces (current s.hardware.shootdown p) va write)
