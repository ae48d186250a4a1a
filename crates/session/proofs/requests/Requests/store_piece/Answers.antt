use Rattle.std.proofs.Common.{ℕ, List, length, true, refl, sym, subst}
use Rattle.std.proofs.lemmas.Bool.{false≢true}
use Rattle.session.specs.Ends.{IsPiece}
use Rattle.session.proofs.Carried.{carries_more}
use Rattle.session.proofs.Rooms.{stops_answered, store_unmade}
use Rattle.session.proofs.Turns.{in_turn_more}
use Rattle.session.proofs.requests.Requests.store_piece.Goals as goal

pub returns-else-is_stored-clause-err : goal.returns-else-is_stored-clause-err
returns-else-is_stored-clause-err g c = carries_more g.D.Device _ _ _ _ _ _ (in_turn_more _ _ _ _
    (stops_answered _ c.args.va true _
    (store_unmade c.args.va c.args.bytes.now _ (λ is. false≢true (c.if-is_stored.ensures.1 is)), refl)
    (refl, refl, subst (λ (l : List ℕ). IsPiece c.args.va (length l)) (sym c.part-bytes.ensures) c.requires)
    c.in_ok-answer.ensures.no_fault)) c.in_ok-answer.ensures.ok
