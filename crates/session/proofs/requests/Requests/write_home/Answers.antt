use Rattle.std.proofs.Common.{refl, sym}
use Rattle.session.proofs.Carried.{carries_nothing, carries_one, carries_then}
use Rattle.session.proofs.Left.{flushed_fewer}
use Rattle.session.proofs.Tries.{IsOnlyFlush, writing_ends, writing_more, writing_none}
use Rattle.session.proofs.Turns.{in_turn_none, in_turn_one, in_turn_then}
use Rattle.session.proofs.requests.Requests.write_home.Goals as goal

pub loop-p-init : goal.loop-p-init
loop-p-init g c = carries_nothing g.D.Device _ _ _ (in_turn_none _ _ (writing_none c.args.p))

pub returns-then-not-is_flushed : goal.returns-then-not-is_flushed
returns-then-not-is_flushed g c =
    let flush = c.flush-flushed in
    carries_then g.D.Device _ _ _ _ _ _ _ _ _ (in_turn_then _ _ _ _ _ _
    (λ all. writing_ends c.args.p _ flush.result (sym c.if-not-is_flushed.ensures))) c.loop-p.invariant
    (carries_one g.D.Device _ _ _ _ _ _ _ flush.ensures.makes tt
    (in_turn_one _ _ (λ _. IsOnlyFlush c.args.p flush.result) _ _ flush.ensures.files tt (refl, refl)))

pub loop-p-preserved : goal.loop-p-preserved
loop-p-preserved g c =
    let flush = c.flush-flushed in
    carries_then g.D.Device _ _ _ _ _ _ _ _ _ (in_turn_then _ _ _ _ _ _
    (λ all. writing_more c.args.p _ flush.result)) c.loop-p.invariant
    (carries_one g.D.Device _ _ _ _ _ _ _ flush.ensures.makes tt
    (in_turn_one _ _ (λ _. IsOnlyFlush c.args.p flush.result) _ _ flush.ensures.files tt (refl, refl)))

pub loop-p-smaller : goal.loop-p-smaller
loop-p-smaller g c =
    flushed_fewer g.D.Device _ _ _ _ c.args.p _ c.flush-flushed.ensures.makes (sym c.if-not-is_flushed.ensures)
