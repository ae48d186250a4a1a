use Rattle.std.proofs.Common.{sym, subst}
use Rattle.famsync_core.specs.Requests.{IsWritten}
use Rattle.famsync_core.specs.declared.volume.OpenVolume.{OpenVolume}
use Rattle.famsync_core.specs.declared.volume.OpenVolume.TheVariants.{Journals, Log}
use Rattle.famsync_core.proofs.Journals.{writes_page}
use Rattle.famsync_core.proofs.Logs.{writes_log_page}
use Rattle.famsync_core.proofs.volume.OpenVolume.write.Goals as goal

pub returns-in-Journals : goal.returns-in-Journals
returns-in-Journals c =
    let put = c.put in
    subst (λ (v : OpenVolume). IsWritten v c.args.page c.args.bytes.now put.result (Journals put.new.self))
    (sym c.in-Journals.is) (writes_page c.in-Journals.volume put.new.self c.args.page c.args.bytes.now put.result
    put.ensures.ok put.ensures.put put.ensures.refused put.ensures.unchanged)

pub returns-in-Log : goal.returns-in-Log
returns-in-Log c =
    let put = c.put-in-Log in
    subst (λ (v : OpenVolume). IsWritten v c.args.page c.args.bytes.now put.result (Log put.new.self))
    (sym c.in-Log.is) (writes_log_page c.in-Log.volume put.new.self c.args.page c.args.bytes.now put.result
    put.ensures.ok put.ensures.put put.ensures.refused put.ensures.unchanged)
