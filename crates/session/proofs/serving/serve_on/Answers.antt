use Rattle.std.proofs.Common.{Ok, Err, ap, arith}
use Rattle.session.specs.declared.session_fault.SessionFault.{SessionFault}
use Rattle.session.specs.Answers.{AnswersInput}
use Rattle.session.proofs.Lines.{reads_same}
use Rattle.session.proofs.Served.{one_list}
use Rattle.session.proofs.Stretches.{made_does, made_then}
use Rattle.session.proofs.Writing.{answers_none, answers_next, answers_input, answers_to_end}
use Rattle.session.proofs.serving.serve_on.Goals as goal

pub loop-count-init : goal.loop-count-init
loop-count-init g c =
    let input = g.I.Read.remaining c.args.input.now in
    answers_none g.D.Device _ _ input input (g.W.Write.contents c.args.out.now) (reads_same input)

pub returns-in-Ok-false : goal.returns-in-Ok-false
returns-in-Ok-false g c =
    let known = g.I.Read.remaining in
    let contents = g.W.Write.contents in
    let none = c.in-Ok-false.field-0-test in
    one_list {T = Unit {0}} {E = SessionFault} g.D.Device c.steps_are_a_run.ensures.run _ _ _ _ (Ok tt) _
    (made_then g.D.Device _ _ _ _ _ _ (made_does g.D.Device _ _ _ _ _ c.loop-count.invariant)
    c.serve_next.ensures.made)
    (answers_to_end g.D.Device _ _ _ _ _ _ c.loop-count._count _ (known c.args.input.now) (known c.loop-count.input)
    (known c.serve_next.new.input) (contents c.args.out.now) (contents c.loop-count.out)
    (contents c.serve_next.new.out) none c.loop-count.invariant c.in-Ok-false.ensures.answered
    (c.in-Ok-false.ensures.end (ap Ok none)))

pub returns-in-Err : goal.returns-in-Err
returns-in-Err g c =
    let known = g.I.Read.remaining in
    let contents = g.W.Write.contents in
    one_list {T = Unit {0}} {E = SessionFault} g.D.Device c.steps_are_a_run.ensures.run _ _ _ _ (Err c.in-Err.fault)
    (AnswersInput c.args.session.now.notes (known c.args.input.now) (known c.serve_next.new.input)
    (contents c.args.out.now) (contents c.serve_next.new.out))
    (made_then g.D.Device _ _ _ _ _ _ (made_does g.D.Device _ _ _ _ _ c.loop-count.invariant)
    c.serve_next.ensures.made) tt

pub loop-count-preserved : goal.loop-count-preserved
loop-count-preserved g c =
    let known = g.I.Read.remaining in
    let contents = g.W.Write.contents in
    answers_next g.D.Device _ _ _ _ _ _ c.loop-count._count _ (known c.args.input.now) (known c.loop-count.input)
    (known c.serve_next.new.input) (contents c.args.out.now) (contents c.loop-count.out)
    (contents c.serve_next.new.out) c.in-Ok-true.field-0-test c.loop-count.invariant c.in-Ok-true.ensures.answered

pub returns : goal.returns
returns g c =
    let known = g.I.Read.remaining in
    let contents = g.W.Write.contents in
    one_list {T = Unit {0}} {E = SessionFault} g.D.Device c.steps_are_a_run.ensures.run _ _ _ _ (Ok tt) _
    (made_does g.D.Device _ _ _ _ _ c.loop-count.invariant)
    (answers_input g.D.Device _ _ _ _ c.loop-count._count (known c.args.input.now) (known c.loop-count.input)
    (contents c.args.out.now) (contents c.loop-count.out) c.loop-count.invariant
    (λ few. absurd (omega (arith, few, c.loop-count-test.false))))
