use Rattle.session.specs.CarriedOut.{CarriesOut}
use Rattle.session.specs.Turns.{InTurn}
use Rattle.session.specs.inside.Made.{AreTries}
use Rattle.session.proofs.Left.{left_of}
use Rattle.session.proofs.requests.Requests.begin_length.Given as goal

abbrev pub invariant-loop-begun : goal.invariant-loop-begun
invariant-loop-begun g l = CarriesOut g.D.Device l.initial.self.machine l.initial.self.notes
    (InTurn l.initial.self.files (λ _. AreTries l.p l.file l.length) l.self.files) l.self.machine l.self.notes

abbrev pub decreases-loop-begun : goal.decreases-loop-begun
decreases-loop-begun g l = left_of l.self.machine.state
