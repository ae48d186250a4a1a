use Rattle.std.proofs.Common.{take}
use Rattle.crash_table.specs.Calls.{listing_memory, StepsCountedBy}
use Rattle.machine_log.specs.Disk.{shown_by}
use Rattle.crash_table.specs.Runs.{calls_below}
use Rattle.crash_table.proofs.running.note_steps.Given as goal

abbrev pub invariant-loop-step : goal.invariant-loop-step
invariant-loop-step g l = StepsCountedBy (shown_by listing_memory) calls_below l.initial.machine
    (take l.step-index l.steps) l.replies.items l.counts.items l.machine
