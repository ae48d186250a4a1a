-- The effect of one act on a machine's layers, over any device.
use Rattle.std.specs.Prelude.{ℕ, ◌≡◌, ◌≢◌, ◌↔◌, ◌+◌, ◌-◌, ◌^◌, ◌<◌, ◌&&◌, Bool, if◌then◌else◌, List, length}
use Rattle.device.specs.Count.{raised}
use Rattle.device.specs.Device.{Only, LeavesOnly}
use Rattle.device.specs.declared.device.Device.{Ghosts}
use Rattle.page_entry.specs.declared.refusal.Refusal.TheVariants as refusals
use Rattle.journal.specs.Work.{Sync, CopyBlock, TornFromWork}
use Rattle.machine.specs.declared.act.Act.{Act}
use Rattle.machine.specs.declared.act.Act.TheVariants as acts
use Rattle.machine.specs.declared.act.Reply.{Reply}
use Rattle.machine.specs.declared.act.Reply.TheVariants as replies
use Rattle.machine.specs.declared.act.Step.{Step}
use Rattle.machine.specs.declared.layers.Layers.{Layers}
use Rattle.machine.specs.Rules.{Answers, Rules}
use Rattle.machine.specs.Calls.{CallsOf, has_failed}
use Rattle.machine.specs.Steps.{step_work}
use Rattle.machine.specs.Devices.{DeviceAfter}
use Rattle.machine.specs.inside.Layers.{state_in, AnswersBy, IsQuiet, KeepsReserved}

pub record ActDone {D Z : Type 0} (disk : Ghosts D) (old : Layers D Z) (step : Step) (reply : Reply)
    (new : Layers D Z) : Type 0 where
  pub rules : AnswersBy (disk.is_honest old.device) (λ d d'. Rules (state_in old) d step reply (state_in new) d')
      (disk.seen old.device) (disk.seen new.device)
  pub left : (c : List ℕ) → disk.may_leave new.device c
      → TornFromWork (step_work (state_in old) step.act reply) (disk.may_leave old.device) c
  pub durable : disk.is_honest old.device → reply ≢ replies.Refused refusals.Device
      → step_work (state_in old) step.act reply ≡ Sync → Only (disk.may_leave new.device) (disk.seen old.device)
  pub time : LeavesOnly disk.moment disk.left_since old.device new.device
      (TornFromWork (step_work (state_in old) step.act reply) (disk.may_leave old.device))
  pub unread : disk.is_honest old.device → (from to : ℕ) → reply ≡ replies.Refused refusals.Device
      → step_work (state_in old) step.act reply ≡ CopyBlock from to → disk.calls_made old.device < 2 ^ 64 - 2
      → disk.calls_made new.device ≡ disk.calls_made old.device + 1 → disk.seen new.device ≡ disk.seen old.device
  pub honest : disk.is_honest new.device ↔ disk.is_honest old.device
  pub len : length (disk.seen new.device) ≡ length (disk.seen old.device)
  pub device : DeviceAfter disk (state_in old) step.p step.act reply old.device new.device
  pub calls : CallsOf (state_in old) step.p step.act reply (disk.calls_made old.device) (disk.calls_made new.device)
      (disk.faults_met old.device) (disk.faults_met new.device)
  pub kept : KeepsReserved old new

-- An act that leaves the device unchanged is answered by the rules.
pub record IsAnsweredQuietly {D Z : Type 0} (old : Layers D Z) (p : ℕ) (act : Act) (reply : Reply) (new : Layers D Z)
    : Type 0 where
  pub rules : (disk : List ℕ) → Answers (state_in old) disk p act reply (state_in new)
  pub quiet : IsQuiet old new

-- The act requests a mapping.
abbrev pub IsMap : Act → Type 0
IsMap (acts.Map space va len file offset prot access) = Unit {0}
IsMap act = ⊥

-- The counts before and after a fault was served, if a page was read (`reads`) or not.
abbrev pub FixCalls : Bool → Reply → ℕ → ℕ → ℕ → ℕ → Type 0
FixCalls reads reply calls calls' faults faults' =
    (calls' ≡ (if reads then raised calls else calls))
    × (faults' ≡ (if reads && has_failed reply then raised faults else faults))
