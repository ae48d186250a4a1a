use Rattle.std.proofs.Common.{refl, ◌≡◌, ◌+◌, ◌*◌, ◌≤◌, ℕ, List, length, min, sym, ◌∙◌, ap, arith}
use Rattle.device.specs.Device.{written}
use Rattle.device.specs.Failing.{spoilt}
use Rattle.device.proofs.Spoiling.{wrote_none, wrote_more, written_none, spoilt_more}
use Rattle.device.proofs.Outcomes.{ok_from, on_ok}
use Rattle.device.proofs.failing.spoil.Goals as goal

pub loop-k-init : goal.loop-k-init
loop-k-init g c = record {
  wrote = wrote_none c.args.at c.args.len c.args.device.now (g.met.D.Device.since_now c.args.device.now);
  faults = refl;
  spoilt = λ honest. sym (written_none (g.D.Device.seen c.args.device.now) c.args.at)
      ∙ ap (λ n. written (g.D.Device.seen c.args.device.now) c.args.at (spoilt n)) (omega arith);
  pieces = omega arith;
}

pub returns-then-is_err-clause-wrote : goal.returns-then-is_err-clause-wrote
returns-then-is_err-clause-wrote g c =
    wrote_more c.loop-k.invariant.wrote (c.args.at + 4096 * c.loop-k.k) c.min-n.result (omega arith)
    (omega (arith, c.min-n.ensures, c.div_ceil-k-end.ensures)) c.spoil_piece.ensures.wrote

pub loop-k-preserved : goal.loop-k-preserved
loop-k-preserved g c =
    let so_far = c.loop-k.invariant in
    let none = sym c.is_err.ensures.value ∙ c.if-is_err.false in
    let done : min (4096 * c.loop-k.k) c.args.len ≡ 4096 * c.loop-k.k = omega (arith, c.div_ceil-k-end.ensures) in
    let more : 4096 * c.loop-k.k + c.min-n.result ≡ min (4096 * (c.loop-k.k + 1)) c.args.len =
    omega (arith, c.min-n.ensures, c.div_ceil-k-end.ensures) in
    let room : c.args.at + 4096 * c.loop-k.k + c.min-n.result ≤ length (g.D.Device.seen c.args.device.now) =
    omega (arith, c.min-n.ensures, c.div_ceil-k-end.ensures) in
    record {
      wrote = wrote_more so_far.wrote (c.args.at + 4096 * c.loop-k.k) c.min-n.result (omega arith)
          (omega (arith, c.min-n.ensures, c.div_ceil-k-end.ensures)) c.spoil_piece.ensures.wrote;
      faults = c.spoil_piece.ensures.done (ok_from c.spoil_piece.result none) ∙ so_far.faults;
      spoilt = λ honest.
          on_ok c.spoil_piece.result none (c.spoil_piece.ensures.spoilt (so_far.wrote.honest.1 honest))
          ∙ ap (λ (l : List ℕ). written l (c.args.at + 4096 * c.loop-k.k) (spoilt c.min-n.result))
          (so_far.spoilt honest ∙ ap (λ n. written (g.D.Device.seen c.args.device.now) c.args.at (spoilt n)) done)
          ∙ spoilt_more (g.D.Device.seen c.args.device.now) c.args.at (4096 * c.loop-k.k) c.min-n.result room
          ∙ ap (λ n. written (g.D.Device.seen c.args.device.now) c.args.at (spoilt n)) more;
      pieces = omega arith;
    }
