use Rattle.machine.proofs.code.Runs.{taken_then}
use Rattle.machine.proofs.laws.steps_after_steps.Goals as goal

pub returns : goal.returns
returns g c = λ old mid new steps later replies observed first rest.
    taken_then g.D.Device old mid new steps replies later observed first rest
