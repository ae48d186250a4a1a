use Rattle.std.proofs.Common.{ap, arith}
use Rattle.session.specs.declared.files.Files.{Files}
use Rattle.session.specs.Files.{round_of}
use Rattle.session.proofs.Carried.{carries_more, carries_nothing, carries_then}
use Rattle.session.proofs.Tries.{left_then, vain_enough, vain_none, vain_then}
use Rattle.session.proofs.Turns.{in_turn_none, in_turn_round, in_turn_then}
use Rattle.session.proofs.requests.Requests.take_next_out.Goals as goal

pub loop-tried-init : goal.loop-tried-init
loop-tried-init g c = carries_nothing g.D.Device _ _ _ (in_turn_none _ _ (vain_none c.args.p))

pub returns-then-try_next : goal.returns-then-try_next
returns-then-try_next g c = carries_then g.D.Device _ _ _ _ _ _ _ _ _ (in_turn_then _ _ _ _ _ _
    (left_then c.args.p c.loop-tried._tried 1)) c.loop-tried.invariant c.if-try_next.ensures

pub loop-tried-preserved : goal.loop-tried-preserved
loop-tried-preserved g c = carries_then g.D.Device _ _ _ _ _ _ _ _ _ (in_turn_then _ _ _ _ _ _
    (λ all. vain_then c.args.p c.loop-tried._tried 1)) c.loop-tried.invariant c.if-try_next.ensures

pub returns : goal.returns
returns g c =
    let all = ap (λ (f : Files g.row.A.Denot). round_of f.lines.items) c.files.ensures in
    carries_more g.D.Device _ _ _ _ _ _ (in_turn_round _ _ _ _
    (vain_enough c.args.p c.loop-tried._tried (round_of c.args.self.now.files.lines.items)
    (omega (arith, c.pages-tried-end.ensures, all, c.loop-tried-test.false)))) c.loop-tried.invariant
