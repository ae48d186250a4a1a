use Rattle.std.proofs.Common.{length, take, sym, subst}
use Rattle.engine.specs.Engine.{HasRun, KeepsDevice}
use Rattle.engine.proofs.Starts.{run_kept, refused_kept}
use Rattle.engine.proofs.running.run.Goals as goal

pub returns-in-Ok-clause-ran : goal.returns-in-Ok-clause-ran
returns-in-Ok-clause-ran g c =
    let replies = c.make_steps.ensures.0 in
    let steps = take (length replies) c.args.steps.now in
    let P : g.row.D.Denot → Type 0 = λ device. HasRun g.D.Device c.args.device c.args.shape steps replies device in (
      replies,
      c.make_steps.ensures.1,
      subst P (sym c.into_device.ensures) (c.ran_since_start.ensures c.args.device c.args.shape c.in-Ok.machine steps
          replies c.in-Ok.ensures.started c.make_steps.ensures.2),
    )

pub returns-in-Ok-clause-kept : goal.returns-in-Ok-clause-kept
returns-in-Ok-clause-kept g c =
    let replies = c.make_steps.ensures.0 in
    let steps = take (length replies) c.args.steps.now in
    let P : g.row.D.Denot → Type 0 = λ device. KeepsDevice g.D.Device c.args.device device in
    subst P (sym c.into_device.ensures) (run_kept g.D.Device c.args.device c.args.shape c.in-Ok.machine steps replies
    c.make_steps.new.machine c.in-Ok.ensures.started c.make_steps.ensures.2)

pub returns-in-Err-clause-kept : goal.returns-in-Err-clause-kept
returns-in-Err-clause-kept g c =
    refused_kept g.D.Device c.args.device c.args.shape c.in-Err.refused.1 c.in-Err.refused.0 c.in-Err.ensures.refused
