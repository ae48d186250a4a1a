-- Runs: a volume is opened, a machine is booted over it, and steps are made one at a time.
use Rattle.std.specs.Prelude.{◌≡◌, ◌↔◌, ◌⊎◌, List, length, Result, Ok, Err}
use Rattle.device.specs.declared.device.Device.{Ghosts}
use Rattle.page_entry.specs.declared.refusal.Refusal.{Refusal}
use Rattle.volume_codec.specs.Files.{File}
use Rattle.volume_codec.specs.Super.{SuperValue}
use Rattle.volume_codec.specs.Recovery.{RecoversTo}
use Rattle.recovery.specs.Opening.{Opens}
use Rattle.recovery.specs.Volume.{VolumeState, IsWellFormed}
use Rattle.machine.specs.declared.act.Reply.{Reply}
use Rattle.machine.specs.declared.act.Shape.{Shape}
use Rattle.machine.specs.declared.act.Step.{Step}
use Rattle.machine.specs.Booting.{RefusesShape}
use Rattle.machine.specs.Fresh.{IsShape, fresh}
use Rattle.machine.specs.State.{Whole}
use Rattle.machine.specs.Runs.{StepsTaken}
use Rattle.engine.specs.Survival.{Survives}

-- The device was opened, and a machine of this shape was booted over its volume.
pub record HasStarted {D : Type 0} (disk : Ghosts D) (before : D) (shape : Shape) (start : Whole D) : Type 0 where
  pub volume : VolumeState D
  pub opened : Opens disk before (Ok volume.table) volume.device
  pub well_formed : IsWellFormed disk volume
  pub shaped : IsShape volume.table shape
  pub booted : start ≡ record { state = fresh volume.table volume.lengths shape; device = volume.device }

-- Nothing was run: the opening was refused, or a machine of this shape was refused over the volume. The device is as
-- the opening left it.
abbrev pub HasNotStarted : {D : Type 0} → Ghosts D → D → Shape → D → Refusal → Type 0
HasNotStarted disk before shape after refusal = Opens disk before (Err refusal) after
    ⊎ ((table : SuperValue) × Opens disk before (Ok table) after × RefusesShape table shape refusal)

-- the device that is handed back, after a run or a refusal
abbrev pub handed_back : {D : Type 0} → Result D (Refusal × D) → D
handed_back (Ok after) = after
handed_back (Err refused) = refused.1

-- The device is as honest and as long as before, so that it can be used for the same again.
pub record KeepsDevice {D : Type 0} (disk : Ghosts D) (before after : D) : Type 0 where
  pub honest : disk.is_honest after ↔ disk.is_honest before
  pub len : length (disk.seen after) ≡ length (disk.seen before)

-- A run over a device: a machine was booted over its volume, and made these steps with these replies.
pub record HasRun {D : Type 0} (disk : Ghosts D) (before : D) (shape : Shape) (steps : List Step) (replies : List Reply)
    (after : D) : Type 0 where
  pub start : Whole D
  pub last : Whole D
  pub started : HasStarted disk before shape start
  -- For any device: each reply obeys the rules, and each step made its device calls.
  pub made : StepsTaken disk start steps replies last
  pub ended : after ≡ last.device
  -- For an honest device: what was stored survives, from the files to which the device recovered before it was opened.
  pub survives : disk.is_honest before
      → (files : List File) × RecoversTo (disk.seen before) files × Survives disk files before start steps replies last
