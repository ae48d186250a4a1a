use Rattle.session.proofs.Changes.{answers_alone}
use Rattle.session.proofs.Phases.{change_is}
use Rattle.session.proofs.Stretches.{does_one}
use Rattle.session.proofs.requests.Requests.make_change.Goals as goal

pub returns-clause-answers : goal.returns-clause-answers
returns-clause-answers g c =
    let is = change_is g.D.Device _ _ _ _ _ _ _ c.has_phases.ensures c.requires.held.1 c.requires.calm
    c.make.ensures.makes in
    does_one g.D.Device _ _ _ _ _ _ _ (answers_alone c.args.p _ is.0) c.make.ensures.makes

pub returns-clause-over : goal.returns-clause-over
returns-clause-over g c =
    (change_is g.D.Device _ _ _ _ _ _ _ c.has_phases.ensures c.requires.held.1 c.requires.calm c.make.ensures.makes).2

pub returns-clause-made : goal.returns-clause-made
returns-clause-made g c =
    λ change held. (change_is g.D.Device _ _ _ _ _ _ change c.has_phases.ensures held c.requires.calm
    c.make.ensures.makes).1
