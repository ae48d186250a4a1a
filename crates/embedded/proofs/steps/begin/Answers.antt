use Rattle.std.proofs.Common.{◌+◌, sym, ap, subst}
use Rattle.std.specs.Prelude.{nat_lt}
use Rattle.deferred_disk.specs.Deferred.{Deferred}
use Rattle.page_entry.specs.declared.refusal.Refusal.TheVariants as refusals
use Rattle.pager.specs.State.{PagerState}
use Rattle.embedded.specs.Steps.{NoStep, ThenStep, RefusesCommit, FailsBefore, NeverBegins}
use Rattle.embedded.proofs.Awaiting.{busy_some}
use Rattle.embedded.proofs.Left.{step_fewer}
use Rattle.embedded.proofs.Making.{never_begins}
use Rattle.embedded.proofs.steps.begin.Goals as goal

pub loop-pager-init : goal.loop-pager-init
loop-pager-init g c = (0, NoStep)

pub loop-pager-smaller : goal.loop-pager-smaller
loop-pager-smaller g c = step_fewer c.loop-pager.pager c.make_step.new.pager c.in-Made.field-0 c.in-Made.ensures.0
    c.in-Made.ensures.1

pub loop-pager-preserved : goal.loop-pager-preserved
loop-pager-preserved g c =
    let it = c.loop-pager.invariant in (
      it.0 + 1,
      ThenStep it.0 c.loop-pager.pager c.make_step.new.pager c.in-Made.field-0 c.in-Made.ensures.0
          (sym c.loop-pager-test.ensures) c.in-Made.ensures.1 it.1,
    )

pub returns-in-Failed-clause-refused : goal.returns-in-Failed-clause-refused
returns-in-Failed-clause-refused g c =
    let it = c.loop-pager.invariant in
    FailsBefore it.0 c.loop-pager.pager c.make_step.new.pager it.1 (sym c.loop-pager-test.ensures) c.in-Failed.ensures

pub returns-in-Broken-clause-refused : goal.returns-in-Broken-clause-refused
returns-in-Broken-clause-refused g c =
    let it = c.loop-pager.invariant in
    subst (λ (s : PagerState Deferred). RefusesCommit c.args.pager.now refusals.Broken s) (sym c.in-Broken.ensures.0)
    (never_begins c.args.pager.now c.loop-pager.pager it.0 it.1 c.in-Broken.ensures.1)

pub returns-in-Idle-clause-refused : goal.returns-in-Idle-clause-refused
returns-in-Idle-clause-refused g c =
    absurd (busy_some c.loop-pager.pager (sym c.loop-pager-test.ensures) c.in-Idle.ensures.1)

pub returns-in-Err-clause-refused : goal.returns-in-Err-clause-refused
returns-in-Err-clause-refused g c =
    let it = c.loop-pager.invariant in
    subst (λ (s : PagerState Deferred). RefusesCommit c.args.pager.now c.in-Err.why s) (sym c.in-Err.ensures.unchanged)
    (NeverBegins it.0 c.in-Err.why c.loop-pager.pager it.1 c.in-Err.ensures.refused
    (λ _. sym c.loop-pager-test.ensures))

pub returns-in-Ok-clause-begun : goal.returns-in-Ok-clause-begun
returns-in-Ok-clause-begun g c =
    let it = c.loop-pager.invariant in
    record {
      waits = it.0;
      begins = c.loop-pager.pager;
      earlier = it.1;
      commit = record { admitted = c.in-Ok.ensures.ok; may = c.in-Ok.ensures.begins };
      mark_is = c.in-Ok.ensures.mark;
      is_some = ap (λ n. nat_lt 0 n) c.staged-some.ensures;
      value = c.in-Ok.ensures.committed;
    }
