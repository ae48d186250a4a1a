-- One step of a machine over an honest device, and the observed state at the start of a run.
use Rattle.std.specs.Prelude.{ℕ, ◌≡◌, ◌≢◌, ◌+◌, ◌-◌, ◌^◌, ◌<◌, List, length}
use Rattle.page_entry.specs.declared.refusal.Refusal.TheVariants as refusals
use Rattle.device.specs.Device.{Only, LeavesOnly}
use Rattle.device.specs.declared.device.Device.{Ghosts}
use Rattle.volume_codec.specs.Files.{File}
use Rattle.journal.specs.Work.{Work, CopyBlock, Sync, Nothing, TornFromWork}
use Rattle.machine.specs.declared.act.Act.{Act}
use Rattle.machine.specs.declared.act.Act.TheVariants as acts
use Rattle.machine.specs.declared.act.Reply.{Reply}
use Rattle.machine.specs.declared.act.Reply.TheVariants as replies
use Rattle.machine.specs.declared.act.Step.{Step}
use Rattle.machine.specs.State.{State, Whole}
use Rattle.machine.specs.Rules.{Rules, work_asked}
use Rattle.machine.specs.Observed.{Observed}
use Rattle.machine.specs.Laws.{observed_at_start}

-- What a step with this reply writes or makes durable on the device: the work of a write-out's step, or else nothing.
abbrev pub step_work : State → Act → Reply → Work
step_work s acts.Flush replies.Going = work_asked s
step_work s acts.Flush (replies.Committed number) = work_asked s
step_work s acts.Flush (replies.Done number) = work_asked s
step_work s acts.Flush (replies.Refused refusals.Device) = work_asked s
step_work s act reply = Nothing

-- One step of a machine over an honest device: the rules, and what a crash may leave after it and within it. If copying
-- a block failed at its read, nothing was written.
pub record StepMade {D : Type 0} (disk : Ghosts D) (old : Whole D) (step : Step) (reply : Reply) (new : Whole D)
    : Type 0 where
  pub answered : Rules old.state (disk.seen old.device) step reply new.state (disk.seen new.device)
  pub left : (c : List ℕ) → disk.may_leave new.device c
      → TornFromWork (step_work old.state step.act reply) (disk.may_leave old.device) c
  pub durable : reply ≢ replies.Refused refusals.Device → step_work old.state step.act reply ≡ Sync
      → Only (disk.may_leave new.device) (disk.seen old.device)
  pub within : LeavesOnly disk.moment disk.left_since old.device new.device
      (TornFromWork (step_work old.state step.act reply) (disk.may_leave old.device))
  pub unread : (from to : ℕ) → reply ≡ replies.Refused refusals.Device
      → step_work old.state step.act reply ≡ CopyBlock from to → disk.calls_made old.device < 2 ^ 64 - 2
      → disk.calls_made new.device ≡ disk.calls_made old.device + 1 → disk.seen new.device ≡ disk.seen old.device

-- The observed state at the start of a run of this machine with these files.
abbrev pub observed_first : List File → State → Observed
observed_first files start = observed_at_start files (length start.hardware.shootdown.processors)
