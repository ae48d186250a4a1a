use Rattle.std.proofs.Common.{arith}
use Rattle.service.proofs.Traces.{enters, seen_entered}
use Rattle.service.proofs.shared.Shared.enter.Goals as goal

pub invariant_of-self : goal.invariant_of-self
invariant_of-self g c =
    let start = c.self.invariant.2.0 in
    let serves = c.self.invariant.2.1 in
    let ensured = c.enter-reply.ensures in
    let entered = enters g.D.Device _ _ _ c.self.view_is c.is_full.ensures c.if-is_full.false serves.few _ _
    c.of.ensures _ c.push_reserved.ensures.items _ _ c.progress_with-self-inside.ensures ensured.taken ensured.longer
    (λ files start on. ensured.safe files start _ _ on) in (
      omega (arith, c.self.invariant.0, c.push_reserved.ensures.capacity),
      c.self.invariant.1,
      (start, entered.kept start serves),
    )

pub returns-clause-entered : goal.returns-clause-entered
returns-clause-entered g c = λ _.
    let ensured = c.enter-reply.ensures in
    let few = c.self.invariant.2.1.few in
    seen_entered g.D.Device _ _ _ _ _ _ c.self.view_is c.step_of-step.ensures
    (enters g.D.Device _ _ _ c.self.view_is c.is_full.ensures c.if-is_full.false few _ _
    c.of.ensures _ c.push_reserved.ensures.items _ _ c.progress_with-self-inside.ensures ensured.taken ensured.longer
    (λ files start on. ensured.safe files start _ _ on))
