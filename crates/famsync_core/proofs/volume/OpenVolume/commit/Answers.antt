use Rattle.std.proofs.Common.{sym, subst}
use Rattle.famsync_core.specs.Requests.{IsCommitted}
use Rattle.famsync_core.specs.declared.volume.OpenVolume.{OpenVolume}
use Rattle.famsync_core.specs.declared.volume.OpenVolume.TheVariants.{Log}
use Rattle.famsync_core.proofs.Logs.{makes_log_commit}
use Rattle.famsync_core.proofs.volume.OpenVolume.commit.Goals as goal

pub returns-in-Log-clause-made : goal.returns-in-Log-clause-made
returns-in-Log-clause-made c =
    let made = c.commit-in-Log in
    subst (λ (v : OpenVolume). IsCommitted v made.result (Log made.new.self)) (sym c.in-Log.is)
    (makes_log_commit c.in-Log.volume made.new.self made.result made.ensures.commits made.ensures.mark
    made.ensures.stopped made.ensures.unmarked)
