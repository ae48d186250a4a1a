use Rattle.std.proofs.Common.{inl, inr, refl}
use Rattle.std.proofs.lemmas.Result.{on_ok_weaker}
use Rattle.session.proofs.Phases.{keeps_none}
use Rattle.session.proofs.Stretches.{does_more, does_nothing}
use Rattle.session.proofs.Served.{line_keeps, line_serves}
use Rattle.session.proofs.Writing.{line_answered, line_refused}
use Rattle.session.proofs.serving.serve_line.Goals as goal

pub returns-in-Ok-clause-served : goal.returns-in-Ok-clause-served
returns-in-Ok-clause-served g c =
    let contents = g.W.Write.contents in
    line_serves g.D.Device _ _ _ _ c.args.line.now c.answer.result (contents c.args.out.now) (contents c.answer.new.out)
    (does_more g.D.Device _ _ _ _ _ _ (λ steps replies it. inr (_, c.in-Ok.ensures.ok, it)) c.answer.ensures.does)
    (on_ok_weaker c.answer.result
    (line_answered g.D.Device _ _ _ _ c.args.line.now _ (contents c.args.out.now)
    (contents c.answer.new.out) c.in-Ok.ensures.ok)
    c.answer.ensures.answers)

pub returns-in-Ok-clause-phases : goal.returns-in-Ok-clause-phases
returns-in-Ok-clause-phases g c = line_keeps c.args.line.now _ _ _ c.in-Ok.ensures.ok c.answer.ensures.phases

pub returns-in-Err-clause-served : goal.returns-in-Err-clause-served
returns-in-Err-clause-served g c =
    let contents = g.W.Write.contents in
    line_serves g.D.Device _ _ _ _ c.args.line.now c.write_bad.result (contents c.args.out.now)
    (contents c.write_bad.new.out)
    (does_nothing g.D.Device _ _ _ (inl (refl, refl)))
    (on_ok_weaker c.write_bad.result
    (line_refused g.D.Device _ _ c.args.line.now c.in-Err.cause (contents c.args.out.now)
    (contents c.write_bad.new.out) c.in-Err.ensures.err c.in-Err.ensures.why)
    c.write_bad.ensures)

pub returns-in-Err-clause-phases : goal.returns-in-Err-clause-phases
returns-in-Err-clause-phases g c = inr (keeps_none _)
