use Rattle.std.proofs.Common.{◌+◌, ◌++◌, refl, arith}
use Rattle.session.proofs.AtOnce.{loads_on_more}
use Rattle.session.proofs.Carried.{carries_more, carries_nothing, carries_then}
use Rattle.session.proofs.Pieces.{loads_all, loads_cut, loads_more, loads_refused}
use Rattle.session.proofs.Turns.{in_turn_more, in_turn_none, in_turn_then}
use Rattle.session.proofs.requests.Requests.load.Goals as goal

pub loop-done-init : goal.loop-done-init
loop-done-init g c = (omega arith, carries_nothing g.D.Device _ _ _ (in_turn_none _ _ (refl, c.requires)))

pub returns-in-Err : goal.returns-in-Err
returns-in-Err g c = carries_then g.D.Device _ _ _ _ _ _ _ _ _ (in_turn_then _ _ _ _ _ _
    (loads_refused c.args.p c.args.va
    c.args.count c.loop-done.done _ c.loop-done.bytes.items c.in-Err.reply (omega (arith, c.loop-done-test.true))
    c.saturating_add-from.ensures)) c.loop-done.invariant.1 c.in-Err.ensures.err

pub returns-in-Err-load_on : goal.returns-in-Err-load_on
returns-in-Err-load_on g c =
    let done = c.loop-done.done in
    let first = carries_then g.D.Device _ _ _ _ _ _ _ _ _ (in_turn_then _ _ _ _ _ _ (λ all. loads_more c.args.p
    c.args.va done _ c.piece-few.result c.loop-done.bytes.items c.in-Ok.read c.saturating_add-from.ensures))
    c.loop-done.invariant.1 c.in-Ok.ensures.ok in
    carries_more g.D.Device _ _ _ _ _ _ (in_turn_more _ _ _ _ (loads_cut c.args.p c.args.va c.args.count
    (done + c.piece-few.result) (c.loop-done.bytes.items ++ c.in-Ok.read) c.load_on.new.bytes.items
    (omega (arith, c.piece-few.ensures.left, c.loop-done.invariant.0, c.loop-done-test.true)))) first

pub loop-done-preserved : goal.loop-done-preserved
loop-done-preserved g c = (
  omega (
    arith,
    c.piece-few.ensures.left,
    c.loop-done.invariant.0,
    c.loop-done-test.true,
    c.in-Ok-load_on.ensures.few,
  ),
  carries_then g.D.Device _ _ _ _ _ _ _ _ _ (in_turn_then _ _ _ _ _ _ (λ all. loads_on_more c.args.p c.args.va
      (c.loop-done.done + c.piece-few.result) c.in-Ok-load_on.more (c.loop-done.bytes.items ++ c.in-Ok.read)
      c.load_on.new.bytes.items)) (carries_then g.D.Device _ _ _ _ _ _ _ _ _ (in_turn_then _ _ _ _ _ _
      (λ all. loads_more c.args.p c.args.va c.loop-done.done _ c.piece-few.result c.loop-done.bytes.items
      c.in-Ok.read c.saturating_add-from.ensures)) c.loop-done.invariant.1 c.in-Ok.ensures.ok)
      c.in-Ok-load_on.ensures.loads,
)

pub returns : goal.returns
returns g c = carries_more g.D.Device _ _ _ _ _ _ (in_turn_more _ _ _ _ (loads_all c.args.p c.args.va c.args.count
    c.loop-done.done c.loop-done.bytes.items (omega (arith, c.loop-done.invariant.0, c.loop-done-test.false))))
    c.loop-done.invariant.1
