use Rattle.std.proofs.Common.{◌≡◌}
use Rattle.session.specs.CarriedOut.{CarriesOut}
use Rattle.session.specs.Commits.{AreWaits}
use Rattle.session.proofs.Left.{left_of}
use Rattle.session.proofs.requests.Requests.begin_mark.Given as goal

abbrev pub invariant-loop-msync : goal.invariant-loop-msync
invariant-loop-msync g l = CarriesOut g.D.Device l.initial.self.machine l.initial.self.notes
    (AreWaits l.p) l.self.machine l.self.notes × (l.self.files ≡ l.initial.self.files)

abbrev pub decreases-loop-msync : goal.decreases-loop-msync
decreases-loop-msync g l = left_of l.self.machine.state
