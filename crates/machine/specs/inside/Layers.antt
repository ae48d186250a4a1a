-- How the code stores a machine: its layers, and what private calls ensure about them.
use Rattle.std.specs.Prelude.{ℕ, ◌≡◌, ◌*◌, ◌≤◌, ◌<◌, List, [], ◌∷◌, length, Option, Some, None, Result, Ok, Err}
use Rattle.page_entry.specs.declared.refusal.Refusal.{Refusal}
use Rattle.page_entry.specs.declared.numbers.FilePage.{FilePage}
use Rattle.mappings.specs.declared.page_range.PageRange.{PageRange}
use Rattle.mappings.specs.declared.place.Rights.{Rights}
use Rattle.volume_codec.specs.Super.{SuperValue, block_count}
use Rattle.spaces.specs.declared.change.Change.{Change}
use Rattle.spaces.specs.declared.change.Change.TheVariants.{Unmap, Protect}
use Rattle.shootdown.specs.declared.lock.Lock.{Lock}
use Rattle.machine.specs.declared.act.Reply.{Reply}
use Rattle.machine.specs.declared.act.Reply.TheVariants as replies
use Rattle.machine.specs.declared.layers.Layers.{Layers}
use Rattle.frames.specs.Frames.{frame_at, bytes_of}
use Rattle.journal.specs.Pages.{home_of}
use Rattle.journal.specs.WriteOuts.{WriteOutsValue, begun, HasBlock}
use Rattle.checkpoint.specs.Checkpoint.{IsDirty}
use Rattle.machine.specs.State.{State, Whole, cut_at_end}
use Rattle.machine.specs.Refusals.{pages_in_file}
use Rattle.machine.specs.inside.Sound.{IsSound}

-- The state of a machine with these layers.
abbrev pub state_in : {D Z : Type 0} → Layers D Z → State
state_in m = record {
  table = m.table;
  lengths = m.lengths.items;
  hardware = record { shootdown = m.shootdown; spaces = m.spaces.map; memory = m.frames };
  checkpoint = m.checkpoint;
  write_outs = m.write_outs;
  marks = m.marks;
  resized = m.resized;
}

abbrev pub whole_in : {D Z : Type 0} → Layers D Z → Whole D
whole_in m = record { state = state_in m; device = m.device }

-- The memory that a change needs is reserved.
abbrev pub IsReserved : Change → Option (ℕ × PageRange × Option Rights) → Type 0
IsReserved (Unmap pcid range) prepared = prepared ≡ Some (pcid, range, None)
IsReserved (Protect pcid range rights) prepared = prepared ≡ Some (pcid, range, Some rights)
IsReserved other prepared = Unit {0}

-- The memory for the change in progress is reserved.
abbrev pub AreReserved : Option Lock → Option (ℕ × PageRange × Option Rights) → Type 0
AreReserved held prepared = (lock : Lock) → held ≡ Some lock → IsReserved lock.change prepared

-- Facts that hold of every machine: its state is sound, its device is long enough for its volume, and memory is
-- reserved for the change in progress.
pub record AreLayers {D Z : Type 0} (seen : D → List ℕ) (m : Layers D Z) : Type 0 where
  pub sound : IsSound (state_in m)
  pub long : 4096 * block_count m.table ≤ length (seen m.device)
  pub reserved : AreReserved m.shootdown.lock m.spaces.prepared

-- The act leaves the device unchanged, and keeps the reserved memory.
pub record IsQuiet {D Z : Type 0} (old new : Layers D Z) : Type 0 where
  pub same_device : new.device ≡ old.device
  pub same_table : new.table ≡ old.table
  pub still_reserved : AreReserved old.shootdown.lock old.spaces.prepared
      → AreReserved new.shootdown.lock new.spaces.prepared

-- The page belongs to a file of the table.
pub record IsPageOf (table : SuperValue) (owner : FilePage) : Type 0 where
  pub file : owner.file < length table.files
  pub page : owner.page < pages_in_file table.files owner.file

-- The page in a frame is clean, its batches are done, and nothing was stored past its file's end.
pub record IsAtHome (s : State) (owner : FilePage) (frame : ℕ) : Type 0 where
  pub clean : IsDirty s.hardware.spaces s.checkpoint frame → ⊥
  pub written : HasBlock s.write_outs (home_of s.table owner) → ⊥
  pub plain : bytes_of (frame_at s.hardware.memory frame)
      ≡ cut_at_end s owner (bytes_of (frame_at s.hardware.memory frame))

-- The act keeps the reserved memory and the table.
pub record KeepsReserved {D Z : Type 0} (old new : Layers D Z) : Type 0 where
  pub same_table : new.table ≡ old.table
  pub still_reserved : AreReserved old.shootdown.lock old.spaces.prepared
      → AreReserved new.shootdown.lock new.spaces.prepared

-- Some bytes before and after a step obey the rules. If the device is honest, its own bytes do.
pub record AnswersBy (honest : Type 0) (rules : List ℕ → List ℕ → Type 0) (disk disk' : List ℕ) : Type 0 where
  pub some_disk : (d d' : List ℕ) × rules d d'
  pub own_disk : honest → rules disk disk'

-- The write-outs with a batch of these home blocks, if there are any.
abbrev pub with_homes : WriteOutsValue → ℕ → List ℕ → WriteOutsValue
with_homes outs mark [] = outs
with_homes outs mark (home ∷ homes) = begun outs mark (home ∷ homes)

-- The reply for the answer of an act.
abbrev pub reply_to : Result Reply Refusal → Reply
reply_to (Ok reply) = reply
reply_to (Err why) = replies.Refused why
