use Rattle.std.proofs.Common.{inl, inr, refl, sym, ap}
use Rattle.session.proofs.Carried.{carries_one}
use Rattle.session.proofs.Phases.{begun_over, step_begins}
use Rattle.session.proofs.Stretches.{does_first}
use Rattle.session.proofs.requests.Requests.take_out.Goals as goal

pub returns-then-not-is_begun-clause-tries : goal.returns-then-not-is_begun-clause-tries
returns-then-not-is_begun-clause-tries g c = carries_one g.D.Device _ _ _ _ _ _ _ c.make-begun.ensures.makes
    (sym c.if-not-is_begun.ensures) (refl, inl (sym c.if-not-is_begun.ensures, refl, refl, refl))

pub change-changed-requires : goal.change-changed-requires
change-changed-requires g c = (
  _,
  (step_begins g.D.Device _ _ _ _ _ _ _ c.has_phases.ensures (sym c.if-not-is_begun.ensures) c.make-begun.ensures.makes
      refl).held,
)

pub returns-clause-tries : goal.returns-clause-tries
returns-clause-tries g c =
    let begins = step_begins g.D.Device _ _ _ _ _ _ _ c.has_phases.ensures (sym c.if-not-is_begun.ensures)
    c.make-begun.ensures.makes refl in
    let changed = c.change-changed.ensures in
    record {
      makes = does_first g.D.Device _ _ _ _ _ _ _ _ _ _ (λ steps replies answers.
          (refl, inr (c.change-changed.result, changed.made _ begins.held, c.is_reclaimed.ensures, answers)))
          c.make-begun.ensures.makes changed.answers;
      phases = begun_over _ _ _ _ _ begins changed.over;
    }
