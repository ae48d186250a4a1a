use Rattle.std.proofs.Common.{sym, ap, refl, ◌∙◌}
use Rattle.shootdown.specs.Shootdown.{ShootdownState}
use Rattle.shootdown.proofs.CoherenceLaws.{IsUnused-from_Coheres}
use Rattle.shootdown.proofs.shootdown.Shootdown.change.Goals as goal

pub returns-in-0-clause-unused : goal.returns-in-0-clause-unused
returns-in-0-clause-unused g c = λ spaces coheres.
    IsUnused-from_Coheres spaces c.in-Some.lock.change c.args.self.now c.in-Some.lock c.state.ensures.kept coheres
    (sym (ap (λ (s : ShootdownState). s.lock) c.self.view_is) ∙ c.in-Some.is) refl
    (sym c.interrupted.ensures ∙ c.in-0.is)
