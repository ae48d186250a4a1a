use Rattle.std.proofs.Common.{◌≡◌, ◌≤◌, ◌-◌, List, length, take}
use Rattle.machine.specs.declared.act.Reply.{Reply}
use Rattle.machine.specs.Runs.{StepsTaken}
use Rattle.engine.specs.Listening.{HasHeard}
use Rattle.engine.proofs.running.make_steps.Given as goal

abbrev pub invariant-loop-from : goal.invariant-loop-from
invariant-loop-from g l = (replies : List Reply) × (length replies ≡ l.from) × (l.from ≤ length l.steps)
    × HasHeard g.L.Listener.hears l.initial.listener replies l.listener
    × StepsTaken g.D.Device l.initial.machine (take l.from l.steps) replies l.machine

abbrev pub decreases-loop-from : goal.decreases-loop-from
decreases-loop-from g l = length l.steps - l.from
