use Rattle.std.proofs.Common.{◌≡◌, List, length, take}
use Rattle.machine.specs.declared.act.Reply.{Reply}
use Rattle.engine.specs.Listening.{HasHeard}
use Rattle.machine_log.specs.inside.Standing.{StepsStand}
use Rattle.machine_log.proofs.running.make_steps.Given as goal

abbrev pub invariant-loop-step : goal.invariant-loop-step
invariant-loop-step g l = (replies : List Reply) × (length replies ≡ l.step-index)
    × HasHeard g.L.Listener.hears l.initial.listener replies l.listener
    × StepsStand g.D.Device l.initial.machine (take l.step-index l.steps) replies l.machine
