use Rattle.std.proofs.Common.{[], ◌∷◌, refl, sym, ◌∙◌, ap}
use Rattle.std.proofs.lemmas.Bool.{false≢true}
use Rattle.machine.specs.declared.act.Reply.TheVariants.{Fixed}
use Rattle.session.specs.Ends.{fix_by}
use Rattle.session.specs.Steps.{reports_fixed}
use Rattle.session.proofs.Carried.{carries_first, carries_one, carries_then}
use Rattle.session.proofs.Rooms.{are_paging, ends_later, serves_one, IsOnlyFix, tries_again}
use Rattle.session.proofs.Rooms.{unserved_again, unserved_one, unserved_vain}
use Rattle.session.proofs.Turns.{in_turn_first, in_turn_one, in_turn_then}
use Rattle.session.proofs.requests.Requests.fix.Goals as goal

pub returns-then-not-is_no_frame-clause-served : goal.returns-then-not-is_no_frame-clause-served
returns-then-not-is_no_frame-clause-served g c = λ is.
    carries_one g.D.Device _ _ _ _ _ _ _ c.make-reply.ensures.makes tt
    (in_turn_one _ _ _ _ _ c.make-reply.ensures.files tt (serves_one c.args.p c.args.va c.args.write _ is))

pub returns-then-not-is_no_frame-clause-ends : goal.returns-then-not-is_no_frame-clause-ends
returns-then-not-is_no_frame-clause-ends g c = λ not.
    carries_one g.D.Device _ _ _ _ _ _ _ c.make-reply.ensures.makes tt
    (in_turn_one _ _ _ _ _ c.make-reply.ensures.files tt (unserved_one c.args.p c.args.va c.args.write _ not
    (λ is. false≢true (c.if-not-is_no_frame.ensures.1 is)) _))

pub returns-then-not-make_room-clause-served : goal.returns-then-not-make_room-clause-served
returns-then-not-make_room-clause-served g c =
    λ is. absurd (false≢true (ap reports_fixed (sym (c.if-not-is_no_frame.ensures.0 refl)) ∙ is))

pub returns-then-not-make_room-clause-ends : goal.returns-then-not-make_room-clause-ends
returns-then-not-make_room-clause-ends g c = λ not. carries_first g.D.Device _ _ _ _ _ _ _ _ _ _
    (in_turn_first _ _ _ _ _ _ _ c.make-reply.ensures.files tt
    (unserved_vain c.args.p c.args.va c.args.write _ not (c.if-not-is_no_frame.ensures.0 refl)))
    c.make-reply.ensures.makes tt c.if-not-make_room.ensures

pub returns-clause-served : goal.returns-clause-served
returns-clause-served g c =
    let fix = fix_by c.args.p c.args.va c.args.write in
    λ is. carries_first g.D.Device _ _ _ _ _ _ _ _ _ _
    (in_turn_first _ _ _ _ _ _ _ c.make-reply.ensures.files tt
    (λ all steps replies later. ends_later fix Fixed (fix ∷ []) (c.make-reply.result ∷ []) steps replies
    ((refl, refl), tt) later)) c.make-reply.ensures.makes tt
    (carries_then g.D.Device _ _ _ _ _ _ _ _ _ (in_turn_then _ _ _ _ _ _
    (λ all steps replies steps' replies' room later.
    ends_later fix Fixed steps replies steps' replies' (are_paging c.args.p steps replies room.0) later))
    c.if-not-make_room.ensures
    (carries_one g.D.Device _ _ _ _ _ _ _ c.make.ensures.makes tt
    (in_turn_one _ _ _ _ _ c.make.ensures.files tt (serves_one c.args.p c.args.va c.args.write _ is))))

pub returns-clause-ends : goal.returns-clause-ends
returns-clause-ends g c =
    λ not. carries_first g.D.Device _ _ _ _ _ _ _ _ _ _
    (in_turn_first _ _ _ _ _ _ _ c.make-reply.ensures.files tt
    (unserved_again c.args.p c.args.va c.args.write _ _ not (c.if-not-is_no_frame.ensures.0 refl)))
    c.make-reply.ensures.makes tt
    (carries_then g.D.Device _ _ _ _ _ _ _ _ _ (in_turn_then _ _ _ _ _ _
    (tries_again c.args.p c.args.va c.args.write _)) c.if-not-make_room.ensures
    (carries_one g.D.Device _ _ _ _ _ _ _ c.make.ensures.makes tt
    (in_turn_one _ _ (λ _. IsOnlyFix c.args.p c.args.va c.args.write c.make.result) _ _ c.make.ensures.files tt
    (refl, refl))))
