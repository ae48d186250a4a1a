use Rattle.session.proofs.Lines.{reads_none, reads_one, reads_too_long}
use Rattle.session.proofs.Served.{line_answers}
use Rattle.session.proofs.Stretches.{made_does, made_none}
use Rattle.session.proofs.Writing.{answers_none, line_flushed, bad_flushed, flushed_line}
use Rattle.session.proofs.serving.serve_next.Goals as goal

pub returns-in-Ok-End-clause-made : goal.returns-in-Ok-End-clause-made
returns-in-Ok-End-clause-made g c = made_none g.D.Device _ _

pub returns-in-Ok-End-clause-answered : goal.returns-in-Ok-End-clause-answered
returns-in-Ok-End-clause-answered g c =
    let known = g.I.Read.remaining in
    answers_none g.D.Device _ _ (known c.args.input.now) (known c.read_line.new.input)
    (g.W.Write.contents c.args.out.now) (reads_none (known c.args.input.now) (known c.read_line.new.input) _
    c.read_line.new.line.items c.in-Ok-End.field-0-is c.in-Ok-End.ensures).0

pub returns-in-Ok-End-clause-end : goal.returns-in-Ok-End-clause-end
returns-in-Ok-End-clause-end g c = λ _. (reads_none (g.I.Read.remaining c.args.input.now)
    (g.I.Read.remaining c.read_line.new.input) _ c.read_line.new.line.items c.in-Ok-End.field-0-is
    c.in-Ok-End.ensures).1

pub returns-in-Ok-Long-clause-made : goal.returns-in-Ok-Long-clause-made
returns-in-Ok-Long-clause-made g c = made_none g.D.Device _ _

pub returns-in-Ok-Long-clause-answered : goal.returns-in-Ok-Long-clause-answered
returns-in-Ok-Long-clause-answered g c =
    let input = g.I.Read.remaining c.args.input.now in
    let rest = g.I.Read.remaining c.read_line.new.input in
    let contents = g.W.Write.contents in
    bad_flushed g.D.Device _ _ input rest (contents c.args.out.now) (contents c.write_bad-given.new.out)
    (contents c.flushed.new.out) c.write_bad-given.result c.flushed.result (reads_too_long input rest _
    c.read_line.new.line.items c.in-Ok-Long.field-0-is c.in-Ok-Long.ensures) c.write_bad-given.ensures
    c.flushed.ensures

pub returns-in-Ok-Long-clause-end : goal.returns-in-Ok-Long-clause-end
returns-in-Ok-Long-clause-end g c =
    let contents = g.W.Write.contents in
    λ none. absurd (flushed_line (contents c.write_bad-given.new.out)
    (contents c.flushed.new.out) c.write_bad-given.result c.flushed.result c.flushed.ensures none)

pub returns-in-Ok-Whole-clause-made : goal.returns-in-Ok-Whole-clause-made
returns-in-Ok-Whole-clause-made g c = made_does g.D.Device _ _ _ _ _ c.serve_line-served.ensures.served

pub returns-in-Ok-Whole-clause-answered : goal.returns-in-Ok-Whole-clause-answered
returns-in-Ok-Whole-clause-answered g c =
    let line = c.deref.result.now in
    let input = g.I.Read.remaining c.args.input.now in
    let rest = g.I.Read.remaining c.read_line.new.input in
    let contents = g.W.Write.contents in
    line_flushed g.D.Device _ _ _ _ line input rest (contents c.args.out.now)
    (contents c.serve_line-served.new.out) (contents c.flushed-in-Ok-Whole.new.out) c.serve_line-served.result
    c.flushed-in-Ok-Whole.result (reads_one input rest _ c.read_line.new.line.items line c.in-Ok-Whole.field-0-is
    c.deref.ensures.value c.in-Ok-Whole.ensures)
    (line_answers g.D.Device _ _ _ _ line c.serve_line-served.result (contents c.args.out.now)
    (contents c.serve_line-served.new.out) c.serve_line-served.ensures.served) c.flushed-in-Ok-Whole.ensures

pub returns-in-Ok-Whole-clause-end : goal.returns-in-Ok-Whole-clause-end
returns-in-Ok-Whole-clause-end g c =
    let contents = g.W.Write.contents in
    λ none. absurd (flushed_line (contents c.serve_line-served.new.out) (contents c.flushed-in-Ok-Whole.new.out)
    c.serve_line-served.result c.flushed-in-Ok-Whole.result c.flushed-in-Ok-Whole.ensures none)

pub returns-in-Err-clause-made : goal.returns-in-Err-clause-made
returns-in-Err-clause-made g c = made_none g.D.Device _ _
