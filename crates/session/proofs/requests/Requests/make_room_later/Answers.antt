use Rattle.session.proofs.Carried.{carries_more, carries_then}
use Rattle.session.proofs.Tries.{ends_at_once, tries_again_later}
use Rattle.session.proofs.Turns.{in_turn_more, in_turn_then}
use Rattle.session.proofs.requests.Requests.make_room_later.Goals as goal

pub returns-then-not-write_home : goal.returns-then-not-write_home
returns-then-not-write_home g c = carries_more g.D.Device _ _ _ _ _ _
    (in_turn_more _ _ _ _ (ends_at_once c.args.p)) c.if-not-write_home.ensures

pub returns : goal.returns
returns g c = carries_then g.D.Device _ _ _ _ _ _ _ _ _ (in_turn_then _ _ _ _ _ _ (tries_again_later c.args.p _))
    c.if-not-write_home.ensures c.take_next_out.ensures
