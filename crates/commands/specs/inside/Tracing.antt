-- A run of programs on a volume with a log.
use Rattle.std.specs.Prelude.{◌≡◌, ℕ, List}
use Rattle.device.specs.declared.device.Device.{Ghosts}
use Rattle.device.specs.Memory.{may_leave_of}
use Rattle.machine.specs.declared.act.Reply.{Reply}
use Rattle.machine.specs.declared.act.Shape.{Shape}
use Rattle.machine.specs.declared.act.Step.{Step}
use Rattle.engine.specs.Engine.{HasRun}
use Rattle.machine_log.specs.Disk.{LogDiskValue, shown_by}
use Rattle.machine_log.specs.Laws.{StandsForOne, StandsSince}
use Rattle.machine_log.specs.Made.{IsTold}
use Rattle.machine_log.specs.Opening.{HasShown}

-- A run over the disk that shows the volume with a log on a device. These steps were made, with these replies. Then the
-- device was returned.
pub record HasRunOnShown {D : Type 0} (disk : Ghosts D) (before : D) (shape : Shape) (steps : List Step)
    (replies : List Reply) (after : D) : Type 0 where
  pub shown : LogDiskValue D
  pub last : LogDiskValue D
  pub is_shown : HasShown disk before shown
  pub ran : HasRun (shown_by disk) shown shape steps replies last
  pub ended : after ≡ last.device
  -- A crash of the device, within the run or after it, leaves bytes that represent what a crash of the shown disk could
  -- have left. This requires that only commits of the shown disk can be read from these bytes.
  pub within : disk.is_honest last.device → StandsSince disk shown last
  pub later : disk.is_honest last.device → (c : List ℕ) → disk.may_leave after c → IsTold last c
      → StandsForOne (may_leave_of last.memory) c
