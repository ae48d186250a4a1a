use Rattle.std.proofs.Common.{◌≤◌, ◌-◌, length, take}
use Rattle.session.specs.CarriedOut.{CarriesOut}
use Rattle.session.specs.Ranges.{StoresRange}
use Rattle.session.specs.Turns.{InTurn}
use Rattle.session.proofs.requests.Requests.store.Given as goal

abbrev pub invariant-loop-done : goal.invariant-loop-done
invariant-loop-done g l = (l.done ≤ length l.bytes) × CarriesOut g.D.Device l.initial.self.machine
    l.initial.self.notes (InTurn l.initial.self.files (λ _. StoresRange l.p l.va (take l.done l.bytes)) l.self.files)
    l.self.machine l.self.notes

abbrev pub decreases-loop-done : goal.decreases-loop-done
decreases-loop-done g l = length l.bytes - l.done
