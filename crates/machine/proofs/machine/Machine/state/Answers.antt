use Rattle.machine.proofs.Names.{◌≡◌, false, subst, IsTrue, IfOk, IfErr, Einval, is_there, state_of, Whole}
use Rattle.machine.proofs.machine.Machine.state.Goals as goal

pub returns-clause-ok : goal.returns-clause-ok
returns-clause-ok g c =
    subst (λ (w : Whole g.row.D.Denot). IfOk c.state.result (λ state. IsTrue (is_there w.state.hardware.shootdown
    c.args.p) × (state ≡ state_of w.state.hardware.shootdown c.args.p))) c.self.view_is c.state.ensures.ok

pub returns-clause-err : goal.returns-clause-err
returns-clause-err g c =
    subst (λ (w : Whole g.row.D.Denot). IfErr c.state.result (λ why.
    (is_there w.state.hardware.shootdown c.args.p ≡ false) × (why ≡ Einval))) c.self.view_is c.state.ensures.err
