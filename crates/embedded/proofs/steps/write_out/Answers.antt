use Rattle.std.proofs.Common.{sym, subst, arith}
use Rattle.deferred_disk.specs.Deferred.{Deferred}
use Rattle.page_entry.specs.declared.refusal.Refusal.TheVariants as refusals
use Rattle.pager.specs.State.{PagerState}
use Rattle.embedded.specs.Steps.{NoStep, ThenStep, RefusesSteps, Fails}
use Rattle.embedded.proofs.Making.{broken_first}
use Rattle.embedded.proofs.steps.write_out.Goals as goal

pub loop-init : goal.loop-init
loop-init g c = NoStep

pub loop-preserved : goal.loop-preserved
loop-preserved g c = ThenStep c.loop.counter c.loop.pager c.make_step.new.pager c.in-Made.field-0 c.in-Made.ensures.0 tt
    c.in-Made.ensures.1 c.loop.invariant

pub returns-in-Failed-clause-refused : goal.returns-in-Failed-clause-refused
returns-in-Failed-clause-refused g c = Fails c.loop.counter c.loop.pager c.make_step.new.pager
    (omega (arith, c.loop-test.true)) c.loop.invariant c.in-Failed.ensures

pub returns-in-Broken-clause-refused : goal.returns-in-Broken-clause-refused
returns-in-Broken-clause-refused g c =
    subst (λ (s : PagerState Deferred). RefusesSteps c.args.most c.args.pager.now refusals.Broken s)
    (sym c.in-Broken.ensures.0) (broken_first c.args.most c.args.pager.now c.loop.invariant c.in-Broken.ensures.1)
