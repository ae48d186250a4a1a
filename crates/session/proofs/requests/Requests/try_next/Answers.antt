use Rattle.session.proofs.Carried.{carries_from, carries_more}
use Rattle.session.proofs.Tries.{tries_in_turn}
use Rattle.session.proofs.requests.Requests.try_next.Goals as goal

pub returns : goal.returns
returns g c =
    let turned = c.turn-page.ensures in
    carries_more g.D.Device _ _ _ _ _ _
    (tries_in_turn c.args.p c.turn-page.result c.args.self.now.files c.turn-page.new.self.files
    c.take_out.new.self.files c.take_out.result turned.page turned.next turned.lines c.take_out.ensures.files)
    (carries_from g.D.Device _ _ _ _ _ _ _ turned.machine turned.notes c.take_out.ensures.tries)
