-- Disks over a volume with a log, if all that a crash leaves of the device stands for bytes of the disk.
use Rattle.std.specs.Prelude.{◌≡◌, List, [], ◌∷◌}
use Rattle.device.specs.declared.device.Device.{Ghosts}
use Rattle.machine.specs.declared.act.Reply.{Reply}
use Rattle.machine.specs.declared.act.Step.{Step}
use Rattle.machine.specs.Runs.{StepTaken}
use Rattle.machine.specs.State.{Whole}
use Rattle.machine_log.specs.Disk.{LogDiskValue, shown_by}
use Rattle.machine_log.specs.Laws.{StandsSince}

-- If the device is honest, `StandsSince` holds since any earlier state of the disk.
abbrev pub Stands : {D : Type 0} → Ghosts D → LogDiskValue D → Type 0
Stands {D} disk d = disk.is_honest d.device → (old : LogDiskValue D) → StandsSince disk old d

-- A step was made, and `Stands` holds of the disk after it.
pub record StepStands {D : Type 0} (disk : Ghosts D) (old : Whole (LogDiskValue D)) (step : Step) (reply : Reply)
    (new : Whole (LogDiskValue D)) : Type 0 where
  pub taken : StepTaken (shown_by disk) old step reply new
  pub stands : Stands disk new.device

-- These steps had these replies, and `Stands` holds of the disk after each step.
abbrev pub StepsStand : {D : Type 0} → Ghosts D → Whole (LogDiskValue D) → List Step → List Reply
    → Whole (LogDiskValue D) → Type 0
StepsStand disk old [] [] new = new ≡ old
StepsStand {D} disk old (step ∷ steps) (reply ∷ replies) new =
    (mid : Whole (LogDiskValue D)) × StepStands disk old step reply mid × StepsStand disk mid steps replies new
StepsStand disk old steps replies new = ⊥
