use Rattle.session.specs.Ranges.{MakesStepsThat}
use Rattle.session.proofs.Writing.{WritesReplies}
use Rattle.session.proofs.session.Session.answer_steps.Given as goal

abbrev pub invariant-loop-i : goal.invariant-loop-i
invariant-loop-i g l = MakesStepsThat g.D.Device l.initial.self.machine l.initial.self.notes
    (WritesReplies l.steps l.i (g.W.Write.contents l.initial.out) (g.W.Write.contents l.out))
    l.self.machine l.self.notes
