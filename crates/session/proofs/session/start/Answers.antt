use Rattle.std.proofs.Common.{sym, subst}
use Rattle.session.specs.declared.notes.Notes.{Notes}
use Rattle.session.specs.Sessions.{IsServing}
use Rattle.session.proofs.Serves.{served_none}
use Rattle.session.proofs.session.start.Goals as goal

pub invariant_of-result : goal.invariant_of-result
invariant_of-result g c =
    let P : Notes → Type 0 = λ n. IsServing g.D.Device c.in-Ok.requests.machine n in
    subst P (sym c.in-Ok.ensures.started.nothing)
    (served_none g.D.Device c.args.device c.args.shape c.in-Ok.requests.machine c.in-Ok.ensures.started.started)
