use Rattle.std.proofs.Common.{◌≤◌, ◌-◌}
use Rattle.session.specs.CarriedOut.{CarriesOut}
use Rattle.session.specs.Ranges.{LoadsRange}
use Rattle.session.specs.Turns.{InTurn}
use Rattle.session.proofs.requests.Requests.load.Given as goal

abbrev pub invariant-loop-done : goal.invariant-loop-done
invariant-loop-done g l = (l.done ≤ l.count) × CarriesOut g.D.Device l.initial.self.machine l.initial.self.notes
    (InTurn l.initial.self.files (λ _. LoadsRange l.p l.va l.done l.bytes.items) l.self.files)
    l.self.machine l.self.notes

abbrev pub decreases-loop-done : goal.decreases-loop-done
decreases-loop-done g l = l.count - l.done
