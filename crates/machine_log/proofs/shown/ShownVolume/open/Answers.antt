use Rattle.std.proofs.Common.{◌≡◌, ◌∷◌, sym, ap, subst, ◌∙◌, List}
use Rattle.std.specs.List.{AllByRecursion}
use Rattle.volume_codec.specs.Recovery.{Batch}
use Rattle.journal.specs.WriteOut.{IsBatch}
use Rattle.machine_log.specs.Shown.{ShownValue, OpensShown}
use Rattle.machine_log.proofs.Gates.{open_opens}
use Rattle.machine_log.proofs.shown.ShownVolume.open.Goals as goal

pub returns-clause-opens : goal.returns-clause-opens
returns-clause-opens g c =
    let s : ShownValue = c.args.self.now in
    let batch = c.args.batch in
    let view = c.self.view_is in
    let opened : batch ∷ s.opened ≡ c.insert.new.self.items =
    ap (λ (v : ShownValue). batch ∷ v.opened) (sym view) ∙ sym c.in_ok-insert.ensures.items in
    subst (λ v. OpensShown s batch v)
    (ap (λ (l : List Batch). let v : ShownValue = record s { opened = l } in v) opened
    ∙ ap (λ (v : ShownValue). let w : ShownValue = record v { opened = c.insert.new.self.items } in w) (sym view))
    (open_opens s batch c.requires.may c.recovered_from.ensures.record_of_newest c.recovered_from.ensures.no_record)

pub invariant_of-self : goal.invariant_of-self
invariant_of-self g c =
    subst (λ (l : List Batch). AllByRecursion (λ batch. IsBatch c.self.inside.geometry batch) l)
    (sym c.in_err-insert.ensures.items) c.self.invariant
