-- A session: a machine, and notes about all steps that it made since its start.
use Rattle.std.specs.Prelude.{◌≡◌, false, List}
use Rattle.device.specs.declared.device.Device.{Ghosts}
use Rattle.machine.specs.declared.act.Reply.{Reply}
use Rattle.machine.specs.declared.act.Shape.{Shape}
use Rattle.machine.specs.declared.act.Step.{Step}
use Rattle.machine.specs.State.{Whole}
use Rattle.volume_codec.specs.Files.{File}
use Rattle.volume_codec.specs.Recovery.{RecoversTo}
use Rattle.engine.specs.Engine.{HasStarted}
use Rattle.session.specs.declared.files.FileLine.{FileLine}
use Rattle.session.specs.declared.files.Files.{Files}
use Rattle.session.specs.declared.notes.Notes.{Notes}
use Rattle.session.specs.Files.{AreFiles, AreListed}
use Rattle.session.specs.Steps.{Makes}

-- The session as its users see it: its machine, its notes about the steps made, and the volume's files.
pub record SessionState (D A : Type 0) : Type 0 where
  pub machine : Whole D
  pub notes : Notes
  pub files : Files A

-- the notes before the first step
abbrev pub no_notes : Notes
no_notes = record { has_unmarked = false; has_failed = false }

-- A machine of this shape was started over a device. The lines list the volume's files, with their lengths at the
-- opening. If the device is honest, these are the files that its bytes recover to. Nothing is noted yet.
pub record IsStarted {D A : Type 0} (disk : Ghosts D) (device : D) (shape : Shape) (machine : Whole D) (notes : Notes)
    (lines : List (FileLine A)) : Type 0 where
  pub started : HasStarted disk device shape machine
  pub files : AreFiles machine.state.table machine.state.lengths lines
  pub listed : disk.is_honest device
      → (files : List File) × RecoversTo (disk.seen device) files × AreListed files lines
  pub nothing : notes ≡ no_notes

-- The machine `start` was started over a device. From there these steps, with these replies, led to `machine`. The
-- notes are about exactly these steps.
pub record HasServed {D : Type 0} (disk : Ghosts D) (start : Whole D) (steps : List Step) (replies : List Reply)
    (machine : Whole D) (notes : Notes) : Type 0 where
  pub before : D
  pub shape : Shape
  pub started : HasStarted disk before shape start
  pub makes : Makes disk start no_notes steps replies machine notes

-- Some steps led from some start to this machine and these notes. This holds of every session.
abbrev pub IsServing : {D : Type 0} → Ghosts D → Whole D → Notes → Type 0
IsServing {D} disk machine notes =
    (start : Whole D) × (steps : List Step) × (replies : List Reply) × HasServed disk start steps replies machine notes
