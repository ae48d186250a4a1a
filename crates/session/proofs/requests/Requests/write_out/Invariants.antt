use Rattle.std.proofs.Common.{◌≡◌}
use Rattle.session.specs.CarriedOut.{CarriesOut}
use Rattle.session.proofs.Commits.{AreOfOthers}
use Rattle.session.proofs.Left.{left_of}
use Rattle.session.proofs.requests.Requests.write_out.Given as goal

abbrev pub invariant-loop-flushed : goal.invariant-loop-flushed
invariant-loop-flushed g l = CarriesOut g.D.Device l.initial.self.machine l.initial.self.notes
    (AreOfOthers l.p l.mark) l.self.machine l.self.notes × (l.self.files ≡ l.initial.self.files)

abbrev pub decreases-loop-flushed : goal.decreases-loop-flushed
decreases-loop-flushed g l = left_of l.self.machine.state
