use Rattle.std.proofs.Common.{inl, inr, List, ℕ, subst}
use Rattle.device.specs.Memory.{new_disk}
use Rattle.crash_states.specs.Calls.{listing}
use Rattle.crash_table.specs.Trials.{HasNoTrial}
use Rattle.crash_table.specs.LogTrials.{IsNotListedByLog}
use Rattle.crash_table.proofs.log_trial.LogTrial.new.Goals as goal

pub returns-in-Err-clause-refused : goal.returns-in-Err-clause-refused
returns-in-Err-clause-refused g c =
    let P : List ℕ → Type 0 = λ bytes. IsNotListedByLog (listing (new_disk bytes) 0) c.args.shape c.in-Err.fault in
    inl (subst P c.image.ensures c.in-Err.ensures.refused)

pub returns-in-Err-new-clause-refused : goal.returns-in-Err-new-clause-refused
returns-in-Err-new-clause-refused g c =
    let P : List ℕ → Type 0 = λ bytes. HasNoTrial bytes c.args.shape c.in-Err-new.fault in
    inr (subst P c.shown.ensures c.in-Err-new.ensures.refused)
