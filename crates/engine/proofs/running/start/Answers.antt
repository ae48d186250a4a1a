use Rattle.std.proofs.Common.{inl, refl, sym, subst}
use Rattle.machine.specs.Fresh.{IsFresh}
use Rattle.machine.specs.State.{Whole}
use Rattle.engine.proofs.running.start.Goals as goal

pub returns-in-Err-clause-refused : goal.returns-in-Err-clause-refused
returns-in-Err-clause-refused g c = inl c.in-Err.ensures.opens

pub returns-in-Ok-boot-clause-started : goal.returns-in-Ok-boot-clause-started
returns-in-Ok-boot-clause-started g c = record {
  volume = c.in-Ok.volume;
  opened = c.in-Ok.ensures.opens;
  well_formed = c.in-Ok.ensures.well_formed;
  shaped = c.in-Ok-boot.ensures.shaped;
  booted = c.in-Ok-boot.ensures.booted;
}

pub returns-in-Ok-boot-clause-fresh : goal.returns-in-Ok-boot-clause-fresh
returns-in-Ok-boot-clause-fresh g c =
    let P : Whole g.row.D.Denot → Type 0 = λ w. IsFresh w.state in
    subst P (sym c.in-Ok-boot.ensures.booted)
    (record { shape = c.args.shape; fits = c.in-Ok-boot.ensures.shaped; as_booted = refl })
