use Rattle.std.proofs.Common.{sym, subst}
use Rattle.famsync_core.specs.Requests.{IsRead, bytes_read}
use Rattle.famsync_core.specs.declared.volume.OpenVolume.{OpenVolume}
use Rattle.famsync_core.specs.declared.volume.OpenVolume.TheVariants.{Journals, Log}
use Rattle.famsync_core.proofs.Journals.{answers_page}
use Rattle.famsync_core.proofs.Logs.{answers_log_page}
use Rattle.famsync_core.proofs.volume.OpenVolume.read.Goals as goal

pub returns-in-Journals : goal.returns-in-Journals
returns-in-Journals c =
    let read = c.read in
    subst (λ (v : OpenVolume). IsRead v c.args.page (bytes_read read.result read.new.buffer) (Journals read.new.self))
    (sym c.in-Journals.is) (
      answers_page c.in-Journals.volume read.new.self c.args.page read.result read.new.buffer read.ensures.there
          read.ensures.bytes read.ensures.refused read.ensures.wanted,
      (read.ensures.read, read.ensures.calls, read.ensures.carried),
      read.ensures.state,
    )

pub returns-in-Log : goal.returns-in-Log
returns-in-Log c =
    let read = c.read-in-Log in
    subst (λ (v : OpenVolume). IsRead v c.args.page (bytes_read read.result read.new.buffer) (Log read.new.self))
    (sym c.in-Log.is) (
      answers_log_page c.in-Log.volume read.new.self c.args.page read.result read.new.buffer read.ensures.there
          (λ contents well over. read.ensures.bytes contents well over) read.ensures.refused read.ensures.wanted,
      (read.ensures.alone, read.ensures.calls),
      read.ensures.state,
    )
