use Rattle.std.proofs.Common.{◌≢◌, ◌+◌, sym, ◌∙◌, List, subst}
use Rattle.std.proofs.lemmas.Bool.{false≢true}
use Rattle.journal.specs.declared.flushed.Flushed.TheVariants as flushed
use Rattle.journal.specs.WriteOut.{WriteOut}
use Rattle.embedded.specs.Steps.{NoStep, ThenStep}
use Rattle.embedded.specs.inside.Awaiting.{EndsAwaiting}
use Rattle.embedded.proofs.Awaiting.{step_awaiting, step_whole}
use Rattle.embedded.proofs.Left.{step_fewer}
use Rattle.embedded.proofs.steps.write_until.Goals as goal

pub loop-answer-init : goal.loop-answer-init
loop-answer-init g c = ((0, NoStep), c.requires.whole, c.requires.awaits)

pub loop-answer-smaller : goal.loop-answer-smaller
loop-answer-smaller g c = step_fewer c.loop-answer.pager c.make_step.new.pager c.in-Made.answer c.in-Made.ensures.0
    c.in-Made.ensures.1

pub loop-answer-preserved : goal.loop-answer-preserved
loop-answer-preserved g c =
    let it = c.loop-answer.invariant in
    let last = c.loop-answer.pager in
    let new = c.make_step.new.pager in
    let answer = c.in-Made.answer in
    let succeeds = c.in-Made.ensures.0 in
    let step = c.in-Made.ensures.1 in
    let other : answer ≢ flushed.Committed c.args.mark = λ is. false≢true (c.if-is_committed.ensures.1 is) in (
      (it.0.0 + 1, ThenStep it.0.0 last new answer succeeds other step it.0.1),
      step_whole last new answer succeeds step,
      step_awaiting c.args.mark last new answer succeeds other step it.2,
    )

pub returns-in-Broken-clause-failed : goal.returns-in-Broken-clause-failed
returns-in-Broken-clause-failed g c =
    λ _. absurd (false≢true (sym c.loop-answer.invariant.1 ∙ c.in-Broken.ensures.1))

pub returns-in-Idle-clause-failed : goal.returns-in-Idle-clause-failed
returns-in-Idle-clause-failed g c = λ _. absurd (subst (λ (l : List WriteOut). EndsAwaiting c.args.mark l)
    c.in-Idle.ensures.1 c.loop-answer.invariant.2)
