-- A run on a volume with a log: the volume is opened as a disk, a machine is booted over the disk, and steps are made.
use Rattle.std.specs.Prelude.{◌≡◌, ◌≢◌, ◌⊎◌, ℕ, List, Err}
use Rattle.device.specs.declared.device.Device.{Ghosts}
use Rattle.page_entry.specs.declared.refusal.Refusal.{Refusal}
use Rattle.page_entry.specs.declared.refusal.Refusal.TheVariants.{BadShape, Device, OutOfMemory}
use Rattle.volume_codec.specs.Files.{File}
use Rattle.machine.specs.declared.act.Reply.{Reply}
use Rattle.machine.specs.declared.act.Shape.{Shape}
use Rattle.machine.specs.declared.act.Step.{Step}
use Rattle.machine.specs.Runs.{StepsTaken}
use Rattle.machine.specs.State.{Whole}
use Rattle.engine.specs.Engine.{HasStarted, HasNotStarted}
use Rattle.log_volume.specs.Files.{RecoversToLog}
use Rattle.log_opening.specs.Opening.{HasWrittenNothing}
use Rattle.machine_log.specs.Disk.{LogDiskValue, shown_by}
use Rattle.machine_log.specs.Opening.{HasShown, IsCountedDisk, RefusesDisk}
use Rattle.machine_log.specs.Openings.{FindsOnLog, KeepsOnLog}
use Rattle.machine_log.specs.Survival.{AnyBytes, AreAnswered, EndsOnLog, StaysOnLog, SurvivesOnLog}

-- A run over the device of a volume with a log. A machine was started over the disk that shows the volume. It made
-- these steps with these replies.
pub record HasRunOnLog {D : Type 0} (disk : Ghosts D) (before : D) (shape : Shape) (steps : List Step)
    (replies : List Reply) (after : D) : Type 0 where
  pub shown : LogDiskValue D
  pub start : Whole (LogDiskValue D)
  pub last : Whole (LogDiskValue D)
  pub is_shown : HasShown disk before shown
  pub started : HasStarted (shown_by disk) shown shape start
  -- Each reply obeys the rules, and each step makes its calls of the disk.
  pub made : StepsTaken (shown_by disk) start steps replies last
  pub ended : after ≡ last.device.device
  -- If the device was honest, its bytes recovered to files before. The replies obey the laws from these files, and what
  -- was stored in the files survives. If no call of the disk failed, this is found after the last step without a
  -- premise on the bytes.
  pub survives : disk.is_honest before → (files : List File) × RecoversToLog (disk.seen before) files
      × AreAnswered files start steps replies
      × SurvivesOnLog disk files before shown start steps replies last
      × (last.device.memory.faults ≡ 0 → EndsOnLog AnyBytes disk files start steps replies last)

-- Nothing was run, since the volume wasn't opened as a disk.
pub record HasNotShown {D : Type 0} (disk : Ghosts D) (before : D) (refusal : Refusal) (after : D) : Type 0 where
  pub reason : disk.is_honest before → RefusesDisk (disk.seen before) refusal
  -- Nothing is written, unless a device call or memory failed, or the disk would have too many blocks.
  pub unwritten : refusal ≢ Device → refusal ≢ BadShape → refusal ≢ OutOfMemory → HasWrittenNothing disk before after
  pub counted : IsCountedDisk {X = LogDiskValue D} disk before (Err refusal) after
  -- If all bytes that a crash might have left before recover to the same files, these are found afterwards, and after a
  -- crash within the opening.
  pub kept : disk.is_honest before → (files : List File)
      → ((c : List ℕ) → disk.may_leave before c → RecoversToLog c files)
      → KeepsOnLog disk files (disk.left_since after (disk.moment before)) × FindsOnLog disk files after

-- Nothing was run, since no machine of this shape was booted over the disk: the disk can't serve one, or a device call
-- or memory failed.
pub record HasNotBooted {D : Type 0} (disk : Ghosts D) (before : D) (shape : Shape) (refusal : Refusal) (after : D)
    : Type 0 where
  pub shown : LogDiskValue D
  pub is_shown : HasShown disk before shown
  pub left : LogDiskValue D
  pub refused : HasNotStarted (shown_by disk) shown shape left refusal
  pub ended : after ≡ left.device
  -- If the device was honest, the files to which it recovered before are found afterwards.
  pub kept : disk.is_honest before → (files : List File) × RecoversToLog (disk.seen before) files
      × StaysOnLog disk files before shown.device left

-- Nothing was run.
abbrev pub HasNotRunOnLog : {D : Type 0} → Ghosts D → D → Shape → D → Refusal → Type 0
HasNotRunOnLog disk before shape after refusal =
    HasNotShown disk before refusal after ⊎ HasNotBooted disk before shape refusal after
