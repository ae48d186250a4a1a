use Rattle.session.proofs.Carried.{carries_more, carries_then}
use Rattle.session.proofs.Tries.{room_later}
use Rattle.session.proofs.Turns.{in_turn_more, in_turn_then}
use Rattle.session.proofs.requests.Requests.make_room.Goals as goal

pub returns-then-take_next_out : goal.returns-then-take_next_out
returns-then-take_next_out g c = carries_more g.D.Device _ _ _ _ _ _
    (in_turn_more _ _ _ _ (λ all steps replies it. it)) c.if-take_next_out.ensures

pub returns : goal.returns
returns g c = carries_then g.D.Device _ _ _ _ _ _ _ _ _ (in_turn_then _ _ _ _ _ _ (room_later c.args.p _))
    c.if-take_next_out.ensures c.make_room_later.ensures
