use Rattle.std.proofs.Common.{◌≡◌, Ok, Err, refl, subst}
use Rattle.page_entry.specs.declared.refusal.Refusal.{Refusal}
use Rattle.page_entry.specs.declared.refusal.Refusal.TheVariants.{Device}
use Rattle.volume_codec.specs.Recovery.{Batch}
use Rattle.journal.specs.Finished.{Finishes}
use Rattle.recovery.specs.inside.Reading.{batch_of}
use Rattle.recovery.proofs.Carrying.{finishes_as}
use Rattle.recovery.proofs.opening.carry_out.Goals.{After-into_homes}
use Rattle.recovery.proofs.opening.carry_out.Goals as goal

-- what is finished is the batch of the journal
its_batch : (g : _) (c : After-into_homes g)
    → record { journal = c.args.oldest.journal; mark = c.mark-mark.result; homes = c.into_homes.result.items }
    ≡ batch_of c.args.oldest
its_batch g c i =
    record { journal = c.args.oldest.journal; mark = c.mark-mark.ensures i; homes = c.into_homes.ensures i }

pub returns-in-Ok-clause-finishes : goal.returns-in-Ok-clause-finishes
returns-in-Ok-clause-finishes g c =
    let P : Batch → Type 0 = λ b. Finishes {T = Unit {0}} {E = Refusal} g.D.Device c.args.geometry.now b
    c.args.device.now (Ok tt) c.finish.new.device in
    subst P (its_batch g (goal.at.returns-in-Ok-clause-finishes g c).After-into_homes)
    (finishes_as _ (Ok tt) refl c.in-Ok.ensures)

pub returns-in-Err-clause-finishes : goal.returns-in-Err-clause-finishes
returns-in-Err-clause-finishes g c =
    subst (λ (b : Batch). Finishes {T = Unit {0}} {E = Refusal} g.D.Device c.args.geometry.now b c.args.device.now
    (Err Device) c.finish.new.device) (its_batch g (goal.at.returns-in-Err-clause-finishes g c).After-into_homes)
    (finishes_as _ (Err Device) refl c.in-Err.ensures)
