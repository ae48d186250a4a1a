use Rattle.session.specs.Answers.{WritesAnswers}
use Rattle.session.specs.Ranges.{MakesStepsThat}
use Rattle.session.proofs.serving.serve_on.Given as goal

abbrev pub invariant-loop-count : goal.invariant-loop-count
invariant-loop-count g l =
    let known = g.I.Read.remaining in
    let contents = g.W.Write.contents in
    MakesStepsThat g.D.Device l.initial.session.machine l.initial.session.notes
    (WritesAnswers l.initial.session.notes l._count (known l.initial.input) (known l.input) (contents l.initial.out)
    (contents l.out)) l.session.machine l.session.notes
