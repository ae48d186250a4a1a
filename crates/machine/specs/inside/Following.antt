-- The facts that the proofs about runs carry from step to step.
use Rattle.std.specs.Prelude.{List}
use Rattle.device.specs.declared.device.Device.{Ghosts}
use Rattle.volume_codec.specs.Files.{File}
use Rattle.machine.specs.declared.act.Reply.{Reply}
use Rattle.machine.specs.declared.act.Step.{Step}
use Rattle.machine.specs.State.{Whole}
use Rattle.machine.specs.Observed.{observe_all}
use Rattle.machine.specs.Laws.{EachStep, IsLawful}
use Rattle.machine.specs.Crashes.{Begins, StepIsSafe, Throughout}
use Rattle.machine.specs.Steps.{observed_first}
use Rattle.machine.specs.inside.Refining.{Refines}

-- The laws hold of the run until now. Its machine and device agree with the observed state.
pub record Follows {D : Type 0} (disk : Ghosts D) (files : List File) (start : Whole D) (steps : List Step)
    (replies : List Reply) (now : Whole D) : Type 0 where
  pub begins : Begins disk files start
  pub honest : disk.is_honest now.device
  pub through : Throughout (StepIsSafe disk files) (observed_first files start.state) start steps replies now
  pub lawful : EachStep (IsLawful files) (observed_first files start.state) steps replies
  pub refines : Refines files
      (observe_all (observed_first files start.state) steps replies) now.state (disk.seen now.device)
      (disk.may_leave now.device)
