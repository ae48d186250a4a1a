use Rattle.std.proofs.Common.{take}
use Rattle.crash_table.specs.Calls.{StepsCounted}
use Rattle.crash_table.proofs.trial.note_steps.Given as goal

abbrev pub invariant-loop-step : goal.invariant-loop-step
invariant-loop-step g l = StepsCounted g.D.Device l.initial.machine (take l.step-index l.steps) l.replies.items
    l.counts.items l.machine
