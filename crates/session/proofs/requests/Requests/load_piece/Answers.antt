use Rattle.std.proofs.Common.{refl, false}
use Rattle.session.proofs.Carried.{carries_more}
use Rattle.session.proofs.Rooms.{load_unmade, stops_answered}
use Rattle.session.proofs.Turns.{in_turn_more}
use Rattle.session.proofs.requests.Requests.load_piece.Goals as goal

pub returns-in_default-clause-err : goal.returns-in_default-clause-err
returns-in_default-clause-err g c = carries_more g.D.Device _ _ _ _ _ _ (in_turn_more _ _ _ _
    (stops_answered _ c.args.va false _ (load_unmade c.args.va c.args.count _ c.in_default.not-Bytes, refl)
    (refl, refl, c.requires) c.in_ok-answer.ensures.no_fault)) c.in_ok-answer.ensures.ok
