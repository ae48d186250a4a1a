use Rattle.std.proofs.Common.{sym}
use Rattle.embedded_log.specs.Steps.{NoLogStep}
use Rattle.embedded_log.proofs.Leading.{leads_nowhere, leads_on}
use Rattle.embedded_log.proofs.Stepping.{one_more, not_idle, not_moved}
use Rattle.embedded_log.proofs.steps.make_round.Goals as goal

pub loop-files-init : goal.loop-files-init
loop-files-init g c = (
  (0, NoLogStep),
  λ rests. c.rounds_end.ensures.begun c.args.files.now.pager.store rests,
  leads_nowhere c.args.files.now,
)

pub loop-files-preserved : goal.loop-files-preserved
loop-files-preserved g c =
    let inv = c.loop-files.invariant in
    let old = c.loop-files.files in
    let new = c.make_step.new.files in
    let step = c.in-Ok.ensures.stepped in
    let idle = c.rounds_end.ensures.idle old.pager.store new.pager.store in
    let some = not_idle old new c.in-Ok.progress (sym c.loop-files-test.ensures) c.fits_empty_log.ensures idle step in (
      one_more c.args.files.now old new c.in-Ok.progress inv.0 (sym c.loop-files-test.ensures) c.in-Ok.ensures.known
          some step,
      λ rests. c.rounds_end.ensures.goes old.pager.store new.pager.store c.in-Ok.progress step.steps some
          (not_moved c.in-Ok.progress c.has_moved.result c.has_moved.ensures c.if-has_moved.false) (inv.1 rests),
      leads_on c.args.files.now old new inv.2 c.make_step.ensures.leads,
    )

pub returns-then-has_moved-clause-leads : goal.returns-then-has_moved-clause-leads
returns-then-has_moved-clause-leads g c = leads_on c.args.files.now c.loop-files.files c.make_step.new.files
    c.loop-files.invariant.2 c.make_step.ensures.leads

pub returns-then-has_moved-clause-steps : goal.returns-then-has_moved-clause-steps
returns-then-has_moved-clause-steps g c =
    let old = c.loop-files.files in
    let new = c.make_step.new.files in
    let step = c.in-Ok.ensures.stepped in
    let idle = c.rounds_end.ensures.idle old.pager.store new.pager.store in
    one_more c.args.files.now old new c.in-Ok.progress c.loop-files.invariant.0 (sym c.loop-files-test.ensures)
    c.in-Ok.ensures.known
    (not_idle old new c.in-Ok.progress (sym c.loop-files-test.ensures) c.fits_empty_log.ensures idle step) step

pub returns-in-Err-clause-leads : goal.returns-in-Err-clause-leads
returns-in-Err-clause-leads g c = leads_on c.args.files.now c.loop-files.files c.make_step.new.files
    c.loop-files.invariant.2 c.make_step.ensures.leads
