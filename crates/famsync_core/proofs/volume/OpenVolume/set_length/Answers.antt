use Rattle.std.proofs.Common.{sym, subst}
use Rattle.famsync_core.specs.Requests.{IsLengthSet}
use Rattle.famsync_core.specs.declared.volume.OpenVolume.{OpenVolume}
use Rattle.famsync_core.specs.declared.volume.OpenVolume.TheVariants.{Journals, Log}
use Rattle.famsync_core.proofs.Journals.{answers_length}
use Rattle.famsync_core.proofs.Logs.{answers_log_length}
use Rattle.famsync_core.proofs.volume.OpenVolume.set_length.Goals as goal

pub returns-in-Journals : goal.returns-in-Journals
returns-in-Journals c =
    let set = c.set_length in
    subst (λ (v : OpenVolume). IsLengthSet v c.args.file c.args.length set.result (Journals set.new.self))
    (sym c.in-Journals.is) (
      answers_length c.in-Journals.volume set.new.self c.args.file c.args.length set.result set.ensures.ok
          set.ensures.set set.ensures.unchanged set.ensures.refused set.ensures.wanted,
      (set.ensures.read, set.ensures.calls, set.ensures.carried),
      set.ensures.rest,
    )

pub returns-in-Log : goal.returns-in-Log
returns-in-Log c =
    let set = c.set_length-in-Log in
    subst (λ (v : OpenVolume). IsLengthSet v c.args.file c.args.length set.result (Log set.new.self))
    (sym c.in-Log.is) (
      answers_log_length c.in-Log.volume set.new.self c.args.file c.args.length set.result set.ensures.ok
          (λ contents well over. set.ensures.set contents well over) set.ensures.some set.ensures.unchanged
          set.ensures.refused set.ensures.wanted,
      (set.ensures.alone, set.ensures.calls),
      set.ensures.rest,
    )
