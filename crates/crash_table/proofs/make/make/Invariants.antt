use Rattle.std.proofs.Common.{◌≡◌, length, take}
use Rattle.machine.specs.Runs.{StepsTaken}
use Rattle.crash_table.proofs.make.make.Given as goal

abbrev pub invariant-loop-step : goal.invariant-loop-step
invariant-loop-step g l = (length l.replies.items ≡ l.step-index)
    × StepsTaken g.D.Device l.initial.machine (take l.step-index l.steps) l.replies.items l.machine
