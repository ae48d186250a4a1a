-- What survives of a run on a volume with a log, after its end or after a crash at any moment. This is read off the
-- steps and replies of the run.
use Rattle.std.specs.Prelude.{⊤, ℕ, ◌≡◌, ◌⊎◌, List}
use Rattle.device.specs.declared.device.Device.{Ghosts}
use Rattle.volume_codec.specs.Files.{File}
use Rattle.history.specs.History.{Event}
use Rattle.history.specs.Later.{AreDurable}
use Rattle.machine.specs.declared.act.Reply.{Reply}
use Rattle.machine.specs.declared.act.Step.{Step}
use Rattle.machine.specs.Crashes.{Throughout}
use Rattle.machine.specs.Laws.{EachStep, FaultsAreServed, IsLawful}
use Rattle.machine.specs.Observed.{Observed, observe}
use Rattle.machine.specs.Runs.{StepTaken}
use Rattle.machine.specs.State.{Whole}
use Rattle.machine.specs.Steps.{observed_first}
use Rattle.engine.specs.Survival.{history_of}
use Rattle.log_volume.specs.Files.{RecoversToLog}
use Rattle.machine_log.specs.Disk.{LogDiskValue, shown_by}
use Rattle.machine_log.specs.Made.{IsTold}
use Rattle.machine_log.specs.Openings.{FindsAfterLogCrash, FindsOnLog, KeepsOnLog}

-- The history is the one before the step, or the one with it.
abbrev pub BeforeOrWith : Observed → Step → Reply → List Event → Type 0
BeforeOrWith observed step reply history =
    (history ≡ observed.history) ⊎ (history ≡ (observe observed step reply).history)

-- A step was made. After a crash of the volume's device at any moment within it, files are found by the history before
-- the step, or by that with it. The premise on the crash's bytes is `IsTold`. Marks that were acknowledged before
-- belong to both histories.
pub record StepSurvivesOnLog {D : Type 0} (disk : Ghosts D) (files : List File) (observed : Observed)
    (old : Whole (LogDiskValue D)) (step : Step) (reply : Reply) (new : Whole (LogDiskValue D)) : Type 0 where
  pub taken : StepTaken (shown_by disk) old step reply new
  pub within : FindsAfterLogCrash disk files (BeforeOrWith observed step reply)
      (λ c. disk.left_since new.device.device (disk.moment old.device.device) c × IsTold new.device c)

-- The files after a durable prefix of the history are found on the device.
pub record FindsDurableOnLog {D : Type 0} (disk : Ghosts D) (files : List File) (history : List Event) (device : D)
    : Type 0 where
  pub found : List File
  pub durable : AreDurable files history found
  pub finds : FindsOnLog disk found device

-- No machine was booted over the disk that shows a volume with these files. `opened` is the volume's device after the
-- opening, and `left` the disk after the boot failed.
pub record StaysOnLog {D : Type 0} (disk : Ghosts D) (files : List File) (before opened : D) (left : LogDiskValue D)
    : Type 0 where
  -- after a crash within the opening, if all bytes that a crash might have left before recover to these files
  pub opening : ((c : List ℕ) → disk.may_leave before c → RecoversToLog c files)
      → KeepsOnLog disk files (disk.left_since opened (disk.moment before))
  -- after a later crash, under the premise `IsTold`
  pub booting : KeepsOnLog disk files (λ c. disk.left_since left.device (disk.moment opened) c × IsTold left c)
  -- without a crash
  pub found : IsTold left (disk.seen left.device) → FindsOnLog disk files left.device
  pub honest : disk.is_honest left.device

-- Each load, store and fault is answered as the observations before it require. Each served fault lets the next access
-- be answered.
pub record AreAnswered {D : Type 0} (files : List File) (start : Whole (LogDiskValue D)) (steps : List Step)
    (replies : List Reply) : Type 0 where
  pub lawful : EachStep (IsLawful files) (observed_first files start.state) steps replies
  pub served : FaultsAreServed steps replies

-- What is found after the last step. `told` is the premise on the bytes.
pub record EndsOnLog {D : Type 0} (told : List ℕ → Type 0) (disk : Ghosts D) (files : List File)
    (start : Whole (LogDiskValue D)) (steps : List Step) (replies : List Reply) (last : Whole (LogDiskValue D))
    : Type 0 where
  -- after a crash: files after a durable prefix of the whole history
  pub after : FindsAfterLogCrash disk files (λ history. history ≡ history_of files start steps replies)
      (λ c. disk.may_leave last.device.device c × told c)
  -- without a crash: the same, and the device is still honest, so it can be used again
  pub ended : told (disk.seen last.device.device)
      → FindsDurableOnLog disk files (history_of files start steps replies) last.device.device
  pub honest : disk.is_honest last.device.device

-- No premise: any bytes are allowed.
abbrev pub AnyBytes : List ℕ → Type 0
AnyBytes c = ⊤

-- What survives of these steps of a machine that was booted over the disk that shows a volume with these files.
pub record SurvivesOnLog {D : Type 0} (disk : Ghosts D) (files : List File) (before : D) (opened : LogDiskValue D)
    (start : Whole (LogDiskValue D)) (steps : List Step) (replies : List Reply) (last : Whole (LogDiskValue D))
    : Type 0 where
  -- after a crash within the opening, if all bytes that a crash might have left before recover to these files
  pub opening : ((c : List ℕ) → disk.may_leave before c → RecoversToLog c files)
      → KeepsOnLog disk files (disk.left_since opened.device (disk.moment before))
  -- after a crash while the machine is booted, under the premise `IsTold`
  pub booting : KeepsOnLog disk files
      (λ c. disk.left_since start.device.device (disk.moment opened.device) c × IsTold start.device c)
  -- after a crash within a step
  pub within : Throughout (StepSurvivesOnLog disk files) (observed_first files start.state) start steps replies last
  pub ends : EndsOnLog (IsTold last.device) disk files start steps replies last
