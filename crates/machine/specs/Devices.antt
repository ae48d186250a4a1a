-- The effect of a step on the device itself, honest or not. A step of the write-outs does its work on it. A fault reads
-- it once if the page is not in memory. Any other act, and any refusal before a device call, leaves it unchanged.
use Rattle.std.specs.Prelude.{ℕ, ◌≡◌, Bool, true, false}
use Rattle.device.specs.declared.device.Device.{Ghosts}
use Rattle.fault.specs.Fixing.{ReadsOnce}
use Rattle.journal.specs.Work.{Nothing}
use Rattle.machine.specs.declared.act.Act.{Act}
use Rattle.machine.specs.declared.act.Act.TheVariants as acts
use Rattle.machine.specs.declared.act.Reply.{Reply}
use Rattle.machine.specs.State.{State}
use Rattle.machine.specs.Refusals.{reads_page}
use Rattle.machine.specs.Steps.{step_work}
use Rattle.machine.specs.Calls.{has_failed}

-- The device before and after a fault was served or refused. If the page had to be read (`reads`), there was one read,
-- and otherwise none.
pub record DeviceAfterFix {D : Type 0} (disk : Ghosts D) (reads : Bool) (reply : Reply) (old new : D) : Type 0 where
  pub untouched : reads ≡ false → new ≡ old
  pub read : reads ≡ true → ReadsOnce disk.seen disk.may_leave disk.is_honest disk.moment disk.left_since
      disk.calls_made disk.faults_met (has_failed reply) old new

-- The device before and after a step of processor `p`.
abbrev pub DeviceAfter : {D : Type 0} → Ghosts D → State → ℕ → Act → Reply → D → D → Type 0
DeviceAfter disk s p (acts.Fix va write) reply old new = DeviceAfterFix disk (reads_page s p va write) reply old new
DeviceAfter disk s p acts.Flush reply old new = step_work s acts.Flush reply ≡ Nothing → new ≡ old
DeviceAfter disk s p act reply old new = new ≡ old
