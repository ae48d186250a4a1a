use Rattle.std.proofs.Common.{◌≡◌, length, sym, ap, ◌∙◌, subst, arith}
use Rattle.std.proofs.lemmas.Bool.{false≢true}
use Rattle.service.specs.Marks.{has_unmarked}
use Rattle.service.specs.Serving.{SharedState, ServesFrom, HasEntered}
use Rattle.service.specs.inside.Raising.{raise_by}
use Rattle.service.proofs.Raises.{is_acknowledged}
use Rattle.service.proofs.Traces.{one_longer}
use Rattle.service.proofs.locked.Locked.call.Goals as goal

pub invariant_of-self : goal.invariant_of-self
invariant_of-self g c =
    let same = (c.enter-reply.ensures.full (c.is_trace_full.ensures.0 c.if-is_trace_full.true)).1 in
    let P : SharedState g.row.D.Denot → Type 0 = λ s. (c.self.inside.calls.total ≡ length s.trace)
    × ServesFrom g.D.Device g.L.Origin.start g.L.Origin.all g.L.Origin.capacity s in
    subst P (sym same) c.self.invariant

pub invariant_of-self-2 : goal.invariant_of-self-2
invariant_of-self-2 g c =
    let entered = c.enter-reply.ensures.entered
    (λ is. absurd (false≢true (sym c.if-is_trace_full.false ∙ c.is_trace_full.ensures.1 is))) in
    let held = c.self.invariant in
    let serves = held.1 in (
      omega (arith, c.add.ensures.total, held.0, one_longer g.D.Device _ _ _ _ entered),
      record {
        first = serves.first;
        start_is = serves.start_is;
        all_are = serves.all_are;
        capacity_is = entered.capacity ∙ serves.capacity_is;
        serving = entered.kept serves.first serves.serving;
      },
    )

pub returns-clause-entered : goal.returns-clause-entered
returns-clause-entered g c = λ answered.
    let P : SharedState g.row.D.Denot → Type 0 = λ s. HasEntered g.D.Device s
    (record { p = c.args.p; act = c.args.act.now }) c.enter-reply.result c.enter-reply.new.self in
    subst P c.self.view_is (c.enter-reply.ensures.entered answered)

pub returns-clause-raise : goal.returns-clause-raise
returns-clause-raise g c =
    let entered = c.enter-reply.ensures.entered
    (λ is. absurd (false≢true (sym c.if-is_trace_full.false ∙ c.is_trace_full.ensures.1 is))) in
    c.last_raise-raise.ensures _ _ entered.entry
    ∙ ap (λ (s : SharedState g.row.D.Denot). raise_by (has_unmarked s.trace) c.enter-reply.result) c.self.view_is

pub returns-clause-acknowledged : goal.returns-clause-acknowledged
returns-clause-acknowledged g c = λ mark is.
    let entered = c.enter-reply.ensures.entered
    (λ is. absurd (false≢true (sym c.if-is_trace_full.false ∙ c.is_trace_full.ensures.1 is))) in
    is_acknowledged _ _ _ mark entered.entry (sym (c.last_raise-raise.ensures _ _ entered.entry) ∙ is)
