use Rattle.std.proofs.Common.{inl, inr, sym}
use Rattle.session.proofs.Carried.{carries_more, changes_over}
use Rattle.session.proofs.Lengths.{begins_then}
use Rattle.session.proofs.Turns.{in_turn_changed, in_turn_more}
use Rattle.session.proofs.requests.Requests.set_length.Goals as goal

pub returns-then-not-is_begun : goal.returns-then-not-is_begun
returns-then-not-is_begun g c = carries_more g.D.Device _ _ _ _ _ _
    (in_turn_more _ _ _ _ (λ all steps replies it. inr it))
    (c.begin_length-begun.ensures.refuses (sym c.if-not-is_begun.ensures))

pub change-requires : goal.change-requires
change-requires g c = (_, (c.begin_length-begun.ensures.begins (sym c.if-not-is_begun.ensures)).begins.held)

pub returns : goal.returns
returns g c = changes_over g.D.Device _ _ _ _ _ _ _ _ _ (in_turn_changed _ _ _ _ _ c.args.p _ c.change.ensures.files
    (λ all steps replies steps' replies' first later.
    inl (begins_then c.args.p c.args.file c.args.length _ steps replies steps' replies' first later))) _ _
    (c.begin_length-begun.ensures.begins (sym c.if-not-is_begun.ensures)) c.change.ensures.answers
    c.change.ensures.over
