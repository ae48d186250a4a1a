-- The number of device calls that a step makes, and how many of them fail. A served fault makes one read if the page is
-- not in memory. A step of a write-out makes the calls of its work. No other act makes any.
use Rattle.std.specs.Prelude.{ℕ, ◌≡◌, ◌+◌, ◌-◌, ◌^◌, ◌<◌, ◌&&◌, Bool, true, false, if◌then◌else◌}
use Rattle.page_entry.specs.declared.refusal.Refusal.TheVariants as refusals
use Rattle.device.specs.Count.{raised}
use Rattle.journal.specs.Work.{Work, Nothing, calls_of, HasFailed}
use Rattle.machine.specs.declared.act.Act.{Act}
use Rattle.machine.specs.declared.act.Act.TheVariants as acts
use Rattle.machine.specs.declared.act.Reply.{Reply}
use Rattle.machine.specs.declared.act.Reply.TheVariants as replies
use Rattle.machine.specs.State.{State}
use Rattle.machine.specs.Refusals.{reads_page}
use Rattle.machine.specs.Steps.{step_work}

-- Whether a device call failed.
abbrev pub has_failed : Reply → Bool
has_failed (replies.Refused refusals.Device) = true
has_failed reply = false

-- The numbers of calls before and after this work, in which one call failed or none did. A count stays at 2^64 - 1. If
-- it is near that number, nothing is required.
abbrev pub Counts : Work → Bool → ℕ → ℕ → Type 0
Counts work true calls calls' = calls < 2 ^ 64 - 2 → HasFailed work calls calls'
Counts Nothing false calls calls' = calls' ≡ calls
Counts work false calls calls' = calls < 2 ^ 64 - 2 → calls' ≡ calls + calls_of work

-- The numbers of calls and of failed calls, before and after a step of processor `p`. A served fault makes one read if
-- the page is not in memory. A step of the write-outs makes the calls of its work, and only the last of them may fail.
-- No other act makes any.
abbrev pub CallsOf : State → ℕ → Act → Reply → ℕ → ℕ → ℕ → ℕ → Type 0
CallsOf s p (acts.Fix va write) reply calls calls' faults faults' =
    (calls' ≡ (if reads_page s p va write then raised calls else calls))
    × (faults' ≡ (if reads_page s p va write && has_failed reply then raised faults else faults))
CallsOf s p acts.Flush reply calls calls' faults faults' =
    Counts (step_work s acts.Flush reply) (has_failed reply) calls calls'
    × (faults' ≡ (if has_failed reply then raised faults else faults))
CallsOf s p act reply calls calls' faults faults' = (calls' ≡ calls) × (faults' ≡ faults)
