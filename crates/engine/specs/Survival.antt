-- What survives the end of a run, and a crash at any moment of it, by what is observed of its steps and replies.
use Rattle.std.specs.Prelude.{ℕ, List}
use Rattle.device.specs.declared.device.Device.{Ghosts}
use Rattle.volume_codec.specs.Files.{File}
use Rattle.volume_codec.specs.Recovery.{RecoversTo}
use Rattle.recovery.specs.Openings.{IsLater}
use Rattle.machine.specs.declared.act.Reply.{Reply}
use Rattle.machine.specs.declared.act.Step.{Step}
use Rattle.machine.specs.Crashes.{StepIsSafe, Throughout}
use Rattle.history.specs.History.{Event}
use Rattle.history.specs.Later.{FindsDurable, KeepsFiles, FindsAfterCrash}
use Rattle.machine.specs.Laws.{EachStep, FaultsAreServed, IsLawful}
use Rattle.machine.specs.State.{Whole}
use Rattle.machine.specs.Steps.{observed_first}
use Rattle.machine.specs.Observed.{Observed, observe_all}

-- the history that is observed of these steps and replies
abbrev pub history_of : {D : Type 0} → List File → Whole D → List Step → List Reply → List Event
history_of files start steps replies = (observe_all (observed_first files start.state) steps replies).history

-- A step, given what was observed before it. After a crash within the step, each later opening finds the files after a
-- durable prefix of the history before it.
pub record StepSurvives {D : Type 0} (disk : Ghosts D) (files : List File) (observed : Observed)
    (old : Whole D) (step : Step)
    (reply : Reply) (new : Whole D) : Type 0 where
  pub safe : StepIsSafe disk files observed old step reply new
  pub within : FindsAfterCrash disk files observed.history (disk.left_since new.device (disk.moment old.device))

-- The steps and replies of a machine that was booted over a volume with these files, after its device was opened.
pub record Survives {D : Type 0} (disk : Ghosts D) (files : List File) (before : D) (start : Whole D)
    (steps : List Step) (replies : List Reply) (last : Whole D) : Type 0 where
  -- A crash within the opening keeps these files, if everything that a crash might have left before recovers to them.
  pub opening : ((c : List ℕ) → disk.may_leave before c → RecoversTo c files)
      → KeepsFiles disk files (disk.left_since start.device (disk.moment before))
  -- A crash within a step leaves files by the history before that step.
  pub within : Throughout (StepSurvives disk files) (observed_first files start.state) start steps replies last
  -- A crash after the last step leaves files by the whole history.
  pub after : FindsAfterCrash disk files (history_of files start steps replies) (disk.may_leave last.device)
  -- The same holds without a crash, and after any number of later openings, with crashes or without.
  pub ended : (n : ℕ) (later : D) → IsLater disk n last.device later
      → FindsDurable disk files (history_of files start steps replies) later
  -- Loads, stores and faults are answered by what was observed before them, and each fault that can be served is
  -- served.
  pub lawful : EachStep (IsLawful files) (observed_first files start.state) steps replies
  pub served : FaultsAreServed steps replies
