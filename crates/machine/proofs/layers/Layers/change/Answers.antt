use Rattle.machine.proofs.Names.{Option, None, Ok, refl, subst, err_from_is_err_and, Change, HandsOut}
use Rattle.machine.proofs.layers.Layers.change.Goals as goal

pub returns-in_err-change-clause-rules : goal.returns-in_err-change-clause-rules
returns-in_err-change-clause-rules g c =
    let p = err_from_is_err_and c.from_residual.result c.from_residual.ensures.1 in
    rw (p.1, p.2) (λ disk. (c.in_err-change.ensures.handed_out, refl))

pub returns-in_default-clause-rules : goal.returns-in_default-clause-rules
returns-in_default-clause-rules g c =
    let shootdown = c.args.self.now.shootdown in
    let hands : HandsOut shootdown c.args.p (Ok None) = subst
    (λ (x : Option Change). HandsOut shootdown c.args.p (Ok x)) c.in_default.is c.in_ok-change.ensures.handed_out in
    λ disk. (hands.0, (hands.1, refl))
