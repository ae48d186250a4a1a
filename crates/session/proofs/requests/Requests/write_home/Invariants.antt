use Rattle.session.specs.CarriedOut.{CarriesOut}
use Rattle.session.specs.Turns.{InTurn}
use Rattle.session.specs.inside.Trying.{IsWriting}
use Rattle.session.proofs.Left.{left_of}
use Rattle.session.proofs.requests.Requests.write_home.Given as goal

abbrev pub invariant-loop-p : goal.invariant-loop-p
invariant-loop-p g l = CarriesOut g.D.Device l.initial.self.machine l.initial.self.notes
    (InTurn l.initial.self.files (λ _. IsWriting l.p l.has_made) l.self.files) l.self.machine l.self.notes

abbrev pub decreases-loop-p : goal.decreases-loop-p
decreases-loop-p g l = left_of l.self.machine.state
