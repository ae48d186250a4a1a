use Rattle.std.proofs.Common.{◌≡◌, List, length, take}
use Rattle.machine.specs.declared.act.Reply.{Reply}
use Rattle.machine.specs.Runs.{StepsTaken}
use Rattle.engine.specs.Listening.{HasHeard}
use Rattle.engine.proofs.running.make_portion.Given as goal

abbrev pub invariant-loop-step : goal.invariant-loop-step
invariant-loop-step g l = (replies : List Reply) × (length replies ≡ l.step-index)
    × HasHeard g.L.Listener.hears l.initial.listener replies l.listener
    × StepsTaken g.D.Device l.initial.machine (take l.step-index l.portion) replies l.machine
