-- What a crash within a run leaves: the files at one of the run's marks.
use Rattle.std.specs.Prelude.{ℕ, ◌≡◌, ◌⊎◌, ◌≤◌, ◌<◌, false, List, [], ◌∷◌, ◌++◌, length, take}
use Rattle.device.specs.declared.device.Device.{Ghosts}
use Rattle.device.specs.Memory.{Recorded, new_disk, seen_of, may_leave_of, after_stop}
use Rattle.page_entry.specs.declared.refusal.Refusal.TheVariants.{Device}
use Rattle.volume_codec.specs.Files.{File}
use Rattle.volume_codec.specs.Recovery.{RecoversTo}
use Rattle.machine.specs.declared.act.Reply.{Reply}
use Rattle.machine.specs.declared.act.Shape.{Shape}
use Rattle.machine.specs.declared.act.Step.{Step}
use Rattle.history.specs.History.{Event, Mark, files_after, IsDurablePrefix}
use Rattle.machine.specs.Laws.{observed_at_start}
use Rattle.machine.specs.Observed.{observe_all}
use Rattle.engine.specs.Engine.{HasRun, HasNotStarted}
use Rattle.crash_states.specs.Calls.{DeviceCall, ListedDisk, ListsItsCalls, calls_until, listing}
use Rattle.crash_table.specs.Calls.{listing_memory}

-- The history of a machine of this shape over a volume with these files: what can be read off its steps and replies.
abbrev pub history_of : List File → Shape → List Step → List Reply → List Event
history_of files shape steps replies = (observe_all (observed_at_start files shape.cpus) steps replies).history

-- A run ended with these replies, one for each step that was made. Or a device call failed while the volume was opened,
-- and no step was made.
abbrev pub HasEnded : {D : Type 0} → Ghosts D → D → Shape → List Step → List Reply → D → Type 0
HasEnded disk before shape steps replies after = HasRun disk before shape (take (length replies) steps) replies after
    ⊎ ((replies ≡ []) × HasNotStarted disk before shape after Device)

-- The events end with the mark of this number. The number is 0 if there are no events.
abbrev pub EndsAt : ℕ → List Event → Type 0
EndsAt number events = ((number ≡ 0) × (events ≡ []))
    ⊎ ((front : List Event) × (events ≡ front ++ Mark number ∷ []))

-- The found files are those after a durable prefix of the history that ends with the mark `number`. If several marks
-- have these files, it is the newest.
pub record IsAtMark (files : List File) (history : List Event) (found : List File) (number : ℕ) : Type 0 where
  pub prefix : List Event
  pub durable : IsDurablePrefix prefix history
  pub ends : EndsAt number prefix
  pub files_are : found ≡ files_after files prefix
  pub newest : (other : List Event) → IsDurablePrefix other history → found ≡ files_after files other
      → length other ≤ length prefix

-- A run was made up to the device call of number `fails`, counted from 1, which failed. No other call failed. If there
-- is no such call, no call failed, and all steps were made. The calls up to there are those of the whole run.
pub record IsUpTo (calls : List DeviceCall) (fails : ℕ) (steps : List Step) (replies : List Reply) (after : ListedDisk)
    : Type 0 where
  pub made : after.calls ≡ calls_until calls fails
  pub failed : 0 < fails → fails ≤ length calls → (after.made ≡ fails) × (after.faults ≡ 1)
  pub whole : (fails ≡ 0) ⊎ (length calls < fails) → (after.faults ≡ 0) × (length replies ≡ length steps)

-- A run was made up to the device call of number `fails`, or to its end if there is no such call. The disk listed each
-- of its calls. Then a crash left this choice in the places that were written and not synced. The content of `disk` is
-- one that this crash may leave.
pub record IsStopped (calls : List DeviceCall) (fails : ℕ) (steps : List Step) (replies : List Reply) (choice : List ℕ)
    (after : ListedDisk) (disk : Recorded) : Type 0 where
  pub complete : after.refused ≡ false
  pub are_its : ListsItsCalls after
  pub up_to_call : IsUpTo calls fails steps replies after
  pub stopped : disk ≡ after_stop after.inner choice
  pub left : may_leave_of after.inner (seen_of disk)

-- A run with these device calls was made on a disk in memory with these bytes. It was made up to the call of number
-- `fails`, which failed, or to its end if there is no such call. Then a crash left this choice in the places that were
-- written and not synced, which it may leave. The disk then recovers to the files at the mark `number`, by the history
-- before the call failed.
pub record LeavesMark (image : List ℕ) (shape : Shape) (steps : List Step) (calls : List DeviceCall) (fails : ℕ)
    (choice : List ℕ) (number : ℕ) : Type 0 where
  pub replies : List Reply
  pub after : ListedDisk
  pub ended : HasEnded listing_memory (listing (new_disk image) fails) shape steps replies after
  pub complete : after.refused ≡ false
  pub are_its : ListsItsCalls after
  pub up_to_call : IsUpTo calls fails steps replies after
  pub left : may_leave_of after.inner (seen_of (after_stop after.inner choice))
  pub files : List File
  pub before : RecoversTo image files
  pub found : List File
  pub recovers : RecoversTo (seen_of (after_stop after.inner choice)) found
  pub at_mark : IsAtMark files (history_of files shape (take (length replies) steps) replies) found number
