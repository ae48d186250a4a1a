use Rattle.std.proofs.Common.{refl}
use Rattle.session.proofs.Changes.{change_around}
use Rattle.session.proofs.Phases.{changes_around, interrupted_other}
use Rattle.session.proofs.requests.Requests.+change_from.Goals as goal

pub returns-clause-answers : goal.returns-clause-answers
returns-clause-answers g t c =
    let was = c.if-not-is_interrupted.ensures.0 refl in
    let around = changes_around g.D.Device _ _ _ _ _ _ _ _ _ _ _ was c.make.ensures.makes
    c.change_from-reply.ensures.over
    c.make-2.ensures.makes in
    change_around g.D.Device _ _ _ _ _ _ _ _ c.args.p c.args.next _ _ _
    (interrupted_other c.args.self.now.machine.state c.args.p c.args.next c.requires.held.0 c.has_phases.ensures
    c.requires.held.1 was) c.make.ensures.makes around.0 c.change_from-reply.ensures.answers c.make-2.ensures.makes
    around.1

pub returns-clause-over : goal.returns-clause-over
returns-clause-over g t c = (changes_around g.D.Device _ _ _ _ _ _ _ _ _ _ _ (c.if-not-is_interrupted.ensures.0 refl)
    c.make.ensures.makes c.change_from-reply.ensures.over c.make-2.ensures.makes).2
