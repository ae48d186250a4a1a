-- Runs of a machine that begin with its boot.
use Rattle.std.specs.Prelude.{List}
use Rattle.device.specs.declared.device.Device.{Ghosts}
use Rattle.volume_codec.specs.Files.{File}
use Rattle.machine.specs.declared.act.Reply.{Reply}
use Rattle.machine.specs.declared.act.Step.{Step}
use Rattle.machine.specs.State.{Whole}
use Rattle.machine.specs.Crashes.{Begins}
use Rattle.machine.specs.Runs.{StepsTaken}

-- The machine is reached by a run. These steps, with these replies, led to it from a start that is as boot leaves it.
-- The start is over a volume at rest with these files, on an honest device.
pub record IsReached {D : Type 0} (disk : Ghosts D) (files : List File) (start : Whole D)
    (steps : List Step) (replies : List Reply) (now : Whole D) : Type 0 where
  pub begins : Begins disk files start
  pub taken : StepsTaken disk start steps replies now
