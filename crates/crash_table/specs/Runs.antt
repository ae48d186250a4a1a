-- Runs over a disk that shows a device's volume with a log.
use Rattle.std.specs.Prelude.{ℕ, ◌≡◌, ◌⊎◌, false, List, [], Err}
use Rattle.device.specs.declared.device.Device.{Ghosts}
use Rattle.device.specs.Memory.{new_disk}
use Rattle.page_entry.specs.declared.refusal.Refusal.TheVariants.{Device}
use Rattle.machine.specs.declared.act.Reply.{Reply}
use Rattle.machine.specs.declared.act.Shape.{Shape}
use Rattle.machine.specs.declared.act.Step.{Step}
use Rattle.machine.specs.State.{Whole}
use Rattle.engine.specs.Engine.{HasRun, HasStarted}
use Rattle.machine_log.specs.Disk.{LogDiskValue, shown_by}
use Rattle.machine_log.specs.Opening.{HasShown, IsCountedDisk}
use Rattle.crash_states.specs.Calls.{DeviceCall, ListedDisk, ListsItsCalls, listing}
use Rattle.crash_table.specs.Calls.{listing_memory, StepsCountedBy}
use Rattle.crash_table.specs.Crashes.{HasEnded}

-- A device was opened by its log, and a run over the disk that shows its volume ended. It had these replies, one for
-- each step that was made. Or a device call failed during the opening, and no step was made.
abbrev pub HasEndedByLog : {D : Type 0} → Ghosts D → D → Shape → List Step → List Reply → D → Type 0
HasEndedByLog {D} disk before shape steps replies after =
    ((shown last : LogDiskValue D) × HasShown disk before shown
    × HasEnded (shown_by disk) shown shape steps replies last × (after ≡ last.device))
    ⊎ ((replies ≡ []) × IsCountedDisk {X = LogDiskValue D} disk before (Err Device) after)

-- The number of calls of the disk in memory below the disk that shows its volume.
abbrev pub calls_below : LogDiskValue ListedDisk → ℕ
calls_below shown = shown.device.made

-- A run was made over the disk that shows a volume with a log. Below it, a disk in memory lists its calls. `replies`
-- are the run's replies, and `counts` the numbers of that disk's calls after each. `calls` are all its calls, in order,
-- with their kinds, their places and the bytes written. None failed.
pub record AreMadeByLog (before : ListedDisk) (shape : Shape) (steps : List Step) (replies : List Reply)
    (counts : List ℕ) (calls : List DeviceCall) : Type 0 where
  pub shown : LogDiskValue ListedDisk
  pub opened : HasShown listing_memory before shown
  pub start : Whole (LogDiskValue ListedDisk)
  pub last : Whole (LogDiskValue ListedDisk)
  pub started : HasStarted (shown_by listing_memory) shown shape start
  pub counted : StepsCountedBy (shown_by listing_memory) calls_below start steps replies counts last
  pub ran : HasRun (shown_by listing_memory) shown shape steps replies last.device
  pub complete : last.device.device.refused ≡ false
  pub sound : last.device.device.faults ≡ 0
  pub listed : calls ≡ last.device.device.calls
  pub are_its : ListsItsCalls last.device.device

-- These are the replies and the device calls of a run over a disk with the bytes `image`.
abbrev pub AreCallsByLog : List ℕ → Shape → List Step → List Reply → List ℕ → List DeviceCall → Type 0
AreCallsByLog image shape steps replies counts calls =
    AreMadeByLog (listing (new_disk image) 0) shape steps replies counts calls
