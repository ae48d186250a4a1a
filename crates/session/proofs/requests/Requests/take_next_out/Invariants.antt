use Rattle.session.specs.CarriedOut.{CarriesOut}
use Rattle.session.specs.Turns.{InTurn}
use Rattle.session.specs.inside.Trying.{TriesInVain}
use Rattle.session.proofs.requests.Requests.take_next_out.Given as goal

abbrev pub invariant-loop-tried : goal.invariant-loop-tried
invariant-loop-tried g l = CarriesOut g.D.Device l.initial.self.machine l.initial.self.notes
    (InTurn l.initial.self.files (λ _. TriesInVain l.p l._tried) l.self.files) l.self.machine l.self.notes
