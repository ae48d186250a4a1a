use Rattle.std.proofs.Common.{◌≡◌, sym, ap, ◌∙◌, arith}
use Rattle.std.proofs.lemmas.Bool.{false≢true}
use Rattle.volume_codec.specs.Super.{geometry_of}
use Rattle.crash_table.specs.inside.Kept.{most_flushes}
use Rattle.crash_table.proofs.Making.{not_begun, goes_on, is_out, is_answered_otherwise, is_too_long}
use Rattle.crash_table.proofs.make.commit.Goals as goal

pub loop-init : goal.loop-init
loop-init g c = not_begun g.D.Device c.args.machine.now c.args.p

pub returns-then-is_committed-clause-committed : goal.returns-then-is_committed-clause-committed
returns-then-is_committed-clause-committed g c = is_out g.D.Device c.args.machine.now c.loop.machine
    c.enter-reply.new.self c.args.p c.loop.counter c.enter-reply.result c.args.number c.loop.invariant
    c.enter-reply.ensures.taken (c.is_committed.ensures.0 c.if-is_committed.true)

pub returns-then-not-is_going-clause-given_up : goal.returns-then-not-is_going-clause-given_up
returns-then-not-is_going-clause-given_up g c = is_answered_otherwise g.D.Device c.args.machine.now c.loop.machine
    c.enter-reply.new.self c.args.p c.loop.counter c.enter-reply.result c.args.number c.loop.invariant
    c.enter-reply.ensures.taken (sym c.is_going.ensures ∙ c.if-not-is_going.true)
    (λ committed. false≢true (sym c.if-is_committed.false ∙ c.is_committed.ensures.1 committed))

pub loop-preserved : goal.loop-preserved
loop-preserved g c = goes_on g.D.Device c.args.machine.now c.loop.machine c.enter-reply.new.self c.args.p
    c.loop.counter c.enter-reply.result c.loop.invariant c.enter-reply.ensures.longer
    (sym c.is_going.ensures ∙ c.if-not-is_going.false)

pub returns-clause-given_up : goal.returns-clause-given_up
returns-clause-given_up g c =
    let end : c.loop.counter ≡ c.most_flushes-most.result =
    omega (arith, c.loop-test.false, c.loop.auto.counter-end) in
    is_too_long g.D.Device c.args.machine.now c.loop.machine c.args.p c.loop.counter c.args.number c.loop.invariant
    (end ∙ c.most_flushes-most.ensures ∙ ap most_flushes (c.geometry.ensures.value ∙ ap geometry_of c.table.ensures))
