-- How a machine's state and its device agree with the observed state of its run.
use Rattle.std.specs.Prelude.{ℕ, ◌≡◌, ◌≢◌, ◌<◌, ◌≤◌, ◌↔◌, ◌⊎◌, ◌*◌, Bool, true, false, List, ◌++◌}
use Rattle.std.specs.Prelude.{length, map, Option, Some, None, is_some, Contains, slice_index_or}
use Rattle.std.specs.List.{All, list_any}
use Rattle.std.specs.FinMap as maps
use Rattle.page_entry.specs.declared.numbers.FilePage.{FilePage}
use Rattle.frames.specs.Frames.{frame_at, bytes_of}
use Rattle.volume_codec.specs.Files.{File}
use Rattle.volume_codec.specs.Super.{SuperValue}
use Rattle.volume_codec.specs.Lengths.{lengths_in}
use Rattle.journal.specs.Pages.{home_of}
use Rattle.journal.specs.WriteOut.{WriteOut, has_committed}
use Rattle.journal.specs.WriteOuts.{has_uncommitted}
use Rattle.journal.specs.inside.Consistent.{IsConsistent}
use Rattle.spaces.specs.declared.change.Change.{Change}
use Rattle.spaces.specs.declared.change.Change.TheVariants.{Unmap, Protect, Reclaim, SetLength, Checkpoint}
use Rattle.spaces.specs.Spaces.{has_space, space_at}
use Rattle.shootdown.specs.declared.lock.Lock.{Lock}
use Rattle.shootdown.specs.Processors.{is_running}
use Rattle.shootdown.specs.Shootdown.{state_of, current}
use Rattle.checkpoint.specs.Checkpoint.{Holds, IsDirty}
use Rattle.fault.specs.Fault.{is_in_memory}
use Rattle.history.specs.History.{Event, memory_of, after, lengths_of}
use Rattle.history.specs.History.{lengths_after, is_touched, Mark, Acknowledge}
use Rattle.history.specs.inside.Contents.{has_resized, AreContentsOf, HasAcknowledged}
use Rattle.machine.specs.State.{State, cut_at_end}
use Rattle.history.specs.History.{part}
use Rattle.machine.specs.Rules.{bytes_at_mark}
use Rattle.machine.specs.Durability.{IsInFile, within_file}
use Rattle.machine.specs.inside.Sound.{IsSound}
use Rattle.machine.specs.Observed.{Observed, Pending, Unmapping, Protecting, Resizing, places_in}

-- The unmap, protect or change of a length for which a lock is held.
abbrev pub pending_in : Option Change → Option Pending
pending_in None = None
pending_in (Some (Unmap pcid range)) = Some (Unmapping pcid range)
pending_in (Some (Protect pcid range rights)) = Some (Protecting pcid range rights)
pending_in (Some (Reclaim owner)) = None
pending_in (Some (SetLength file to)) = Some (Resizing file to)
pending_in (Some Checkpoint) = None

abbrev pub change_in : Option Lock → Option Change
change_in None = None
change_in (Some lock) = Some lock.change

-- The machine's spaces and processors are as observed.
pub record IsArranged (observed : Observed) (s : State) : Type 0 where
  pub same_spaces : (pcid : ℕ) → maps.contains_key observed.spaces pcid ≡ has_space s.hardware.spaces pcid
  pub same_places : (pcid : ℕ) → places_in observed pcid ≡ (space_at s.hardware.spaces pcid).places
  pub processors : length observed.current ≡ length s.hardware.shootdown.processors
  pub same_current : (p : ℕ) → p < length observed.current
      → slice_index_or observed.current p 0 ≡ current s.hardware.shootdown p
  pub as_many : length observed.running ≡ length s.hardware.shootdown.processors
  pub same_running : (p : ℕ) → p < length observed.running
      → slice_index_or observed.running p false ≡ is_running (state_of s.hardware.shootdown p)
  pub same_locked : observed.locked ≡ is_some s.hardware.shootdown.lock
  pub same_pending : observed.pending ≡ pending_in (change_in s.hardware.shootdown.lock)
  pub same_lengths : observed.lengths ≡ s.lengths

-- The machine's table has these files, and its lengths are those after the history.
pub record HasFiles (files : List File) (history : List Event) (s : State) : Type 0 where
  pub named : map (λ f. record { name = f.name; capacity = f.capacity }) files ≡ s.table.files
  pub lengths : lengths_after (lengths_of files) history ≡ s.lengths
  -- `resized` is true if a length was set since the last mark.
  pub resized : has_resized history ≡ s.resized

-- The memory after the history consists of whole pages, and the frames contain them.
pub record IsLatest (files : List File) (observed : Observed) (s : State) : Type 0 where
  pub whole : (file page : ℕ) → length (after (memory_of files) observed.history file page) ≡ 4096
  pub latest : (frame : ℕ) (owner : FilePage) → Holds s.hardware.memory frame owner
      → bytes_of (frame_at s.hardware.memory frame) ≡ after (memory_of files) observed.history owner.file owner.page

-- The dirty pages are the pages in files that were touched since the last mark. A file loses touched pages only if its
-- length is changed.
pub record AreTouched (observed : Observed) (s : State) : Type 0 where
  pub each : (owner : FilePage) → (IsInFile s owner × (is_touched observed.history owner.file owner.page ≡ true))
      ↔ ((frame : ℕ) × Holds s.hardware.memory frame owner × IsDirty s.hardware.spaces s.checkpoint frame)
  pub inside : s.resized ≡ false → (owner : FilePage) → is_touched observed.history owner.file owner.page ≡ true
      → IsInFile s owner

-- A page that is not in memory has zeros past its file's end.
abbrev pub ArePlain : List File → Observed → State → Type 0
ArePlain files observed s = (owner : FilePage) → IsInFile s owner → is_in_memory s.hardware.memory owner ≡ false
    → after (memory_of files) observed.history owner.file owner.page
    ≡ cut_at_end s owner (after (memory_of files) observed.history owner.file owner.page)

-- The machine has these files, and its frames contain the observed memory.
pub record HasPages (files : List File) (observed : Observed) (s : State) : Type 0 where
  pub files_are : HasFiles files observed.history s
  pub latest : IsLatest files observed s
  pub touched : AreTouched observed s
  pub plain : ArePlain files observed s

-- ---- what the device recovers to

-- The machine is broken, and no checkpoint is in progress. So a mark may be lost: its pages were not written, and no
-- later mark is made.
pub record IsLost (s : State) : Type 0 where
  pub broken : s.write_outs.broken ≡ true
  pub no_mark : change_in s.hardware.shootdown.lock ≢ Some Checkpoint

-- One of these batches is not committed, and `Is` holds of it.
pub record HasUncommitted (batches : List WriteOut) (Is : WriteOut → Type 0) : Type 0 where
  pub w : WriteOut
  pub there : Contains batches w
  pub early : has_committed w ≡ false
  pub is : Is w

-- A batch of this mark is not committed.
abbrev pub IsWaiting : List WriteOut → ℕ → Type 0
IsWaiting batches number = HasUncommitted batches (λ w. w.batch.mark ≡ number)

-- Each mark of the history is acknowledged, or its batch is not committed, or it was lost. The prefix `before` has only
-- acknowledged marks. The prefix `marked` has acknowledged marks, and possibly a mark with an uncommitted batch.
pub record AreMarks (history before marked : List Event) (s : State) : Type 0 where
  pub each : (number : ℕ) → Contains history (Mark number)
      → Contains history (Acknowledge number) ⊎ (IsWaiting s.write_outs.batches number ⊎ IsLost s)
  pub in_before : (number : ℕ) → Contains before (Mark number) → Contains history (Acknowledge number)
  pub in_marked : (number : ℕ) → Contains marked (Mark number)
      → Contains history (Acknowledge number) ⊎ IsWaiting s.write_outs.batches number

-- The contents without and with the batch that is not committed yet (`old` and `new`). Each are those after a marked
-- prefix of the history that has every acknowledged mark. If each batch is committed, only `new` counts.
pub record IsWritten (files : List File) (observed : Observed) (s : State) (old new : ℕ → List ℕ) : Type 0 where
  pub before : List Event
  pub old_are : AreContentsOf files observed.history s.table old before
  pub acknowledged : HasAcknowledged before observed.history
  pub marked : List Event
  pub new_are : AreContentsOf files observed.history s.table new marked
  pub grown : HasAcknowledged marked observed.history
  -- The marks of the batches are in the second prefix.
  pub marks : All (λ w. Contains marked (Mark w.batch.mark)) s.write_outs.batches
  -- The mark of the uncommitted batch is not in the first prefix. A new mark has a number that no earlier mark has.
  pub fresh : (w : WriteOut) → Contains s.write_outs.batches w → has_committed w ≡ false
      → Contains before (Mark w.batch.mark) → ⊥
  pub only : AreMarks observed.history before marked s
  pub numbered : (number : ℕ) → Contains observed.history (Mark number) → number ≤ s.marks
  -- If the machine is broken while a checkpoint is in progress, each of its batches is committed.
  pub ready : s.write_outs.broken ≡ true → change_in s.hardware.shootdown.lock ≡ Some Checkpoint
      → has_uncommitted s.write_outs.batches ≡ false
  -- A page without a store since the last mark has its bytes in `new`, unless a mark was lost.
  pub clean : IsLost s ⊎ ((owner : FilePage) → IsInFile s owner
      → is_touched observed.history owner.file owner.page ≡ false
      → within_file s owner (new (home_of s.table owner))
      ≡ within_file s owner (after (memory_of files) observed.history owner.file owner.page))
  -- If no length was set since the last mark, the lengths in `new` are the machine's.
  pub same_lengths : s.resized ≡ false → lengths_in s.table new ≡ s.lengths
  -- The records of frozen pages are what was gathered.
  pub frozen : All (λ owner. new (home_of s.table owner)
      ≡ cut_at_end s owner (bytes_at_mark s.hardware.memory owner)) s.checkpoint.frozen

-- The contents that the device recovers to agree with the observed state.
pub record IsDurable (files : List File) (observed : Observed) (s : State) (seen : List ℕ)
    (may_leave : List ℕ → Type 0) : Type 0 where
  pub old : ℕ → List ℕ
  pub new : ℕ → List ℕ
  pub consistent : IsConsistent s.table s.write_outs old new seen may_leave
  pub written : IsWritten files observed s old new

-- A machine agrees with what was observed. A read of its device returns `seen`, and a crash may leave the lists
-- `may_leave`.
pub record Refines (files : List File) (observed : Observed) (s : State) (seen : List ℕ)
    (may_leave : List ℕ → Type 0) : Type 0 where
  pub sound : IsSound s
  pub arranged : IsArranged observed s
  pub pages : HasPages files observed s
  pub open pages use *
  pub durable : IsDurable files observed s seen may_leave
  pub open durable use *
