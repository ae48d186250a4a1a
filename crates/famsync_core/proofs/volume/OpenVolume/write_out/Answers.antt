use Rattle.std.proofs.Common.{sym, subst}
use Rattle.famsync_core.specs.Requests.{IsWrittenHome}
use Rattle.famsync_core.specs.declared.volume.OpenVolume.{OpenVolume}
use Rattle.famsync_core.specs.declared.volume.OpenVolume.TheVariants.{Log}
use Rattle.famsync_core.proofs.Logs.{answers_log_steps}
use Rattle.famsync_core.proofs.volume.OpenVolume.write_out.Goals as goal

pub returns-in-Log-clause-made : goal.returns-in-Log-clause-made
returns-in-Log-clause-made c =
    let made = c.write_out-in-Log in
    subst (λ (v : OpenVolume). IsWrittenHome c.args.most v made.result (Log made.new.self)) (sym c.in-Log.is) (
      answers_log_steps c.in-Log.volume made.new.self c.args.most made.result made.ensures.steps made.ensures.stopped,
      made.ensures.rest,
    )
