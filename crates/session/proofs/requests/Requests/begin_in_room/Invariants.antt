use Rattle.session.specs.CarriedOut.{CarriesOut}
use Rattle.session.specs.Turns.{InTurn}
use Rattle.session.specs.inside.Made.{AreTries}
use Rattle.session.proofs.Taken.{taken_of}
use Rattle.session.proofs.requests.Requests.begin_in_room.Given as goal

abbrev pub invariant-loop-set : goal.invariant-loop-set
invariant-loop-set g l = CarriesOut g.D.Device l.initial.self.machine l.initial.self.notes
    (InTurn l.initial.self.files (λ _. AreTries l.p l.file l.length) l.self.files) l.self.machine l.self.notes

abbrev pub decreases-loop-set : goal.decreases-loop-set
decreases-loop-set g l = taken_of l.self.machine.state
