use Rattle.std.proofs.Common.{inl}
use Rattle.std.proofs.lemmas.Result.{IfOk-weaker}
use Rattle.crash_table.proofs.LogEnded.{ended_at_opening}
use Rattle.crash_table.proofs.running.run_by_log.Goals as goal

pub returns-in_ok-last-in-Ok : goal.returns-in_ok-last-in-Ok
returns-in_ok-last-in-Ok g c =
    inl (
      c.in-Ok.disk,
      c.in_ok-last-in-Ok.last,
      record {
        opened = c.in-Ok.ensures.opened;
        fresh = c.in-Ok.ensures.fresh;
        table = c.in-Ok.ensures.shown;
      },
      c.in_ok-last-in-Ok.ensures.ended,
      c.into_device.ensures,
    )

pub returns-in-Err : goal.returns-in-Err
returns-in-Err g c =
    IfOk-weaker c.not_opened.result _ _
    (λ left is. ended_at_opening g.D.Device c.args.device c.args.shape c.args.steps.now c.in-Err.refused.0
    c.in-Err.refused.1 left.0 left.1.items c.in-Err.ensures.counted is)
    c.not_opened.ensures
