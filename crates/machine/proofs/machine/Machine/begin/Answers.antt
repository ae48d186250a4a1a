use Rattle.machine.proofs.Names.{refl}
use Rattle.machine.proofs.machine.Machine.begin.Goals as goal

pub returns : goal.returns
returns g c = λ files begins. record { begins = begins; taken = refl }
