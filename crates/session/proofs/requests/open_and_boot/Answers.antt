use Rattle.std.proofs.Common.{◌≡◌, Ok, inr, sym, ap, ◌∙◌, subst}
use Rattle.recovery.specs.Opening.{Opens}
use Rattle.machine.specs.State.{Whole}
use Rattle.session.proofs.requests.open_and_boot.Goals as goal

pub returns-in-Err-files-clause-refused : goal.returns-in-Err-files-clause-refused
returns-in-Err-files-clause-refused g c =
    let opened = c.in-Ok.volume in
    let device : c.into_device.result ≡ opened.device =
    c.into_device.ensures ∙ ap (λ (w : Whole g.row.D.Denot). w.device) c.in-Ok-boot.ensures.booted in
    let left = subst (λ (d : g.row.D.Denot). Opens g.D.Device c.args.device (Ok opened.table) d) (sym device)
    c.in-Ok.ensures.opens in
    inr (opened.table, left, c.in-Ok-boot.ensures.shaped)
