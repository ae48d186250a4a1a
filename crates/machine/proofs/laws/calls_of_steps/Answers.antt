use Rattle.machine.proofs.laws.calls_of_steps.Goals as goal
use Rattle.machine.proofs.code.Sums.{calls_add_up}

pub returns : goal.returns
returns g c = λ old new steps replies below under taken. calls_add_up g.D.Device old steps replies new below under taken
