use Rattle.std.proofs.Common.{true, sym, ap, subst}
use Rattle.device.proofs.Moments.{leaves_at_start}
use Rattle.journal.specs.declared.flushed.Flushed.{Flushed}
use Rattle.journal.specs.WriteOut.{FlushValue, broken_after}
use Rattle.journal.specs.Alone.{HasLedAlone}
use Rattle.journal.proofs.Alone.{alone_left, view_after, stays_whole, crash_of_step, consistent_after_step}
use Rattle.journal.proofs.flush.Flush.step.Goals as goal

pub returns-then-self-clause-crash : goal.returns-then-self-clause-crash
returns-then-self-clause-crash g c v old new s is_new =
    leaves_at_start (λ l since. alone_left g.D.Device v s l (g.met.D.Device.since_now c.args.device.now l since))

pub returns-in-Device-clause-leads : goal.returns-in-Device-clause-leads
returns-in-Device-clause-leads g c v old new honest s is_new =
    let step = c.step-answer.ensures in
    let inside = c.self.inside in
    subst (λ (f : FlushValue). HasLedAlone g.D.Device v f old new c.step-answer.new.device)
    (sym (view_after inside.geometry inside.queued c.step-answer.new.self
    inside.broken true c.step-answer.result c.args.self.now c.self.view_is step.value
    (sym (ap (λ (a : Flushed). broken_after a inside.broken) c.in-Device.is))))
    (consistent_after_step g.D.Device _ c.args.self.now c.args.bytes.now c.step-answer.result
    c.self.view_is c.told-bytes
    c.if-self.false c.requires.going step.answer step.did v old new s is_new honest)

pub returns-in-Device-clause-crash : goal.returns-in-Device-clause-crash
returns-in-Device-clause-crash g c v old new s is_new =
    let step = c.step-answer.ensures in
    crash_of_step g.D.Device _ c.args.self.now c.args.bytes.now c.step-answer.result c.self.view_is c.told-bytes
    c.if-self.false c.requires.going step.answer step.did v old new s is_new

pub returns-in_default-clause-leads : goal.returns-in_default-clause-leads
returns-in_default-clause-leads g c v old new honest s is_new =
    let step = c.step-answer.ensures in
    let inside = c.self.inside in
    subst (λ (f : FlushValue). HasLedAlone g.D.Device v f old new c.step-answer.new.device)
    (sym (view_after inside.geometry inside.queued c.step-answer.new.self inside.broken
    inside.broken c.step-answer.result c.args.self.now c.self.view_is step.value
    (stays_whole c.step-answer.result inside.broken c.in_default.not-Device)))
    (consistent_after_step g.D.Device _ c.args.self.now c.args.bytes.now c.step-answer.result
    c.self.view_is c.told-bytes
    c.if-self.false c.requires.going step.answer step.did v old new s is_new honest)

pub returns-in_default-clause-crash : goal.returns-in_default-clause-crash
returns-in_default-clause-crash g c v old new s is_new =
    let step = c.step-answer.ensures in
    crash_of_step g.D.Device _ c.args.self.now c.args.bytes.now c.step-answer.result c.self.view_is c.told-bytes
    c.if-self.false c.requires.going step.answer step.did v old new s is_new
