use Rattle.std.proofs.Common.{length, take, subst}
use Rattle.std.proofs.lemmas.Result.{IfOk-weaker}
use Rattle.crash_table.proofs.Ended.{ended_run, ended_at_start, back_at_start}
use Rattle.crash_table.proofs.Left.{back_after_run}
use Rattle.crash_table.proofs.make.run_on.Goals as goal

pub returns-in_ok-replies-in-Ok-clause-ended : goal.returns-in_ok-replies-in-Ok-clause-ended
returns-in_ok-replies-in-Ok-clause-ended g c =
    let replies = c.in_ok-replies-in-Ok.replies.items in
    let steps = take (length replies) c.args.steps.now in
    ended_run g.D.Device c.args.device c.args.shape c.args.steps.now replies c.make-made.new.machine.device
    c.into_device-device.result c.into_device-device.ensures
    (c.ran_since_start.ensures c.args.device c.args.shape c.in-Ok.machine steps replies c.in-Ok.ensures.started
    c.in_ok-replies-in-Ok.ensures.made)

pub returns-in_ok-replies-in-Ok-clause-back : goal.returns-in_ok-replies-in-Ok-clause-back
returns-in_ok-replies-in-Ok-clause-back g c = λ honest only files recovered left may.
    let replies = c.in_ok-replies-in-Ok.replies.items in
    let steps = take (length replies) c.args.steps.now in
    back_after_run g.D.Device c.one_reading.ensures.files c.args.device c.args.shape
    honest files recovered c.in-Ok.machine c.in-Ok.ensures.started
    steps replies c.make-made.new.machine c.in_ok-replies-in-Ok.ensures.made c.keeps_the_laws.ensures.left left
    (subst (λ d. g.D.Device.may_leave d left) c.into_device-device.ensures may)

pub returns-in-Err-clause-ended : goal.returns-in-Err-clause-ended
returns-in-Err-clause-ended g c =
    let refused = c.in-Err.refused in
    IfOk-weaker c.not_opened.result _ _
    (λ left is. ended_at_start g.D.Device c.args.device c.args.shape c.args.steps.now refused.0 refused.1 left.0
    left.1.items c.in-Err.ensures.refused is)
    c.not_opened.ensures

pub returns-in-Err-clause-back : goal.returns-in-Err-clause-back
returns-in-Err-clause-back g c =
    let refused = c.in-Err.refused in
    IfOk-weaker c.not_opened.result _ _
    (λ left is. λ honest only files recovered k may.
    back_at_start g.D.Device c.one_reading.ensures.files
    c.nothing_stored.ensures.files g.met.D.Device.now_is_since c.args.device c.args.shape c.args.steps.now
    refused.0 refused.1 left.0 left.1.items files (c.crashed_since_refusal.ensures c.args.device refused.1 c.args.shape
    refused.0 files c.in-Err.ensures.refused honest) is honest only recovered k may)
    c.not_opened.ensures
