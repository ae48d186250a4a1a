use Rattle.std.proofs.Common.{◌≡◌, ◌⊎◌, ◌≤◌, ◌<◌, inl, inr, true, false, ℕ, ◌+◌, ◌-◌}
use Rattle.std.proofs.Common.{◌/◌, ◌%◌, Ok, Err, refl, ap, ◌∙◌, length-take-le, arith}
use Rattle.std.proofs.lemmas.Bool.{cases_lt}
use Rattle.std.proofs.lemmas.Result.{err_from_is_err_and}
use Rattle.device.specs.Device.{TornFrom}
use Rattle.device.proofs.Moments.{leaves_at_start, leaves_on}
use Rattle.device.proofs.Ranges.{torn_none, torn_from_none}
use Rattle.recovery.proofs.Erased.{erase_more, torn_more, left_more}
use Rattle.recovery.proofs.Kept.{kept_none, kept_then}
use Rattle.recovery.proofs.Writing.{did_kept, overwritten_failed, write_torn, write_calls}
use Rattle.recovery.proofs.formatting.erase.Goals as goal

-- a piece more is a call more
whole_more : (from at to n : ℕ) → from ≤ at → at < to → (n ≡ to - at) ⊎ (n ≡ 32768)
    → (at ≡ to) ⊎ ((at - from) % 32768 ≡ 0) → (at + n ≡ to) ⊎ ((at + n - from) % 32768 ≡ 0)
whole_more from at to n low more (inl last) was = inl (omega arith)
whole_more from at to n low more (inr full) (inl ended) = absurd (omega arith)
whole_more from at to n low more (inr full) (inr whole) = inr (omega arith)

calls_more : (from at to n : ℕ) → from ≤ at → at < to → 0 < n → n ≤ 32768 → (at ≡ to) ⊎ ((at - from) % 32768 ≡ 0)
    → (at + n - from + 32767) / 32768 ≡ (at - from + 32767) / 32768 + 1
calls_more from at to n low more some few (inl ended) = absurd (omega arith)
calls_more from at to n low more some few (inr whole) = omega arith

pub loop-at-init : goal.loop-at-init
loop-at-init g c =
    let from = c.args.from in
    let size = c.args.to - from in
    record {
      low = omega arith;
      high = c.requires.order;
      erased =
          λ honest. record { same_length = refl; zero = λ i low high. absurd (omega arith); others = λ i out. refl };
      torn = λ honest. torn_none _ _ _;
      left = λ l may. torn_from_none from size may;
      time = leaves_at_start (λ l since. torn_from_none from size (g.met.D.Device.since_now c.args.device.now l since));
      whole = inr (omega arith);
      calls = λ small. omega arith;
      kept = kept_none g.D.Device c.args.device.now;
    }

pub loop-at-preserved : goal.loop-at-preserved
loop-at-preserved g c =
    let i = c.loop-at.invariant in
    let did = c.in_ok-write.ensures.did in
    let size = c.args.to - c.args.from in
    let taken = length-take-le c.min-piece.result c.zero_piece-zeros.result in
    let more : c.loop-at.at < c.args.to = omega (arith, c.loop-at-test.true) in
    let piece : (c.min-piece.result ≡ c.args.to - c.loop-at.at) ⊎ (c.min-piece.result ≡ 32768) =
    elim (cases_lt (c.args.to - c.loop-at.at) 32768) [
      | inl last ↦ inl (omega (arith, c.min-piece.ensures))
      | inr full ↦ inr (omega (arith, c.min-piece.ensures))
    ] in
    let count = calls_more c.args.from c.loop-at.at c.args.to c.min-piece.result i.low more
    (omega (arith, c.min-piece.ensures)) (omega (arith, c.min-piece.ensures)) i.whole in
    record {
      low = omega (arith, i.low);
      high = omega (arith, i.high, c.min-piece.ensures);
      erased = λ honest. erase_more c.args.from c.loop-at.at c.min-piece.result 32768 _ _ _ c.zero_piece-zeros.result
          (i.erased honest) i.low (omega (arith, c.min-piece.ensures))
          (omega (arith, i.high, c.min-piece.ensures, c.requires.room)) c.zero_piece-zeros.ensures
          (did.seen (i.kept.honest.1 honest));
      torn = λ honest. torn_more c.args.from c.loop-at.at _ (c.loop-at.at + c.min-piece.result) i.low (i.torn honest)
          (write_torn c.loop-at.at _ true (omega (
            arith,
            i.high,
            i.kept.len,
            c.requires.room,
            c.min-piece.ensures,
            taken,
          )) did (i.kept.honest.1 honest)) (omega (arith, taken));
      left = λ l may. left_more c.args.from size c.loop-at.at _ i.left i.low
          (omega (arith, i.high, c.min-piece.ensures, taken)) l (did.left l may);
      time = leaves_on {P = TornFrom c.args.from size (g.D.Device.may_leave c.args.device.now)} i.time did.time
          (left_more c.args.from size c.loop-at.at _ i.left i.low
          (omega (arith, i.high, c.min-piece.ensures, taken)));
      whole = whole_more c.args.from c.loop-at.at c.args.to c.min-piece.result i.low more piece i.whole;
      calls = λ small. omega (arith, count, i.calls, write_calls c.loop-at.at _ true did);
      kept = kept_then i.kept (did_kept (Ok tt) tt did);
    }

pub returns-in_err-write-clause-overwrites : goal.returns-in_err-write-clause-overwrites
returns-in_err-write-clause-overwrites g c =
    let i = c.loop-at.invariant in
    let did = c.in_err-write.ensures.did in
    let size = c.args.to - c.args.from in
    let taken = length-take-le c.min-piece.result c.zero_piece-zeros.result in
    let more : c.loop-at.at < c.args.to = omega (arith, c.loop-at-test.true) in
    let count = calls_more c.args.from c.loop-at.at c.args.to c.min-piece.result i.low more
    (omega (arith, c.min-piece.ensures)) (omega (arith, c.min-piece.ensures)) i.whole in
    let p = err_from_is_err_and c.from_residual.result c.from_residual.ensures.1 in
    overwritten_failed c.args.from size ((size + 32767) / 32768) c.from_residual.result (p.1 ∙ ap Err p.2)
    (λ honest. torn_more c.args.from c.loop-at.at _ c.args.to i.low (i.torn honest)
    (write_torn c.loop-at.at _ false (omega (arith, i.high, i.kept.len, c.requires.room, c.min-piece.ensures, taken))
    did (i.kept.honest.1 honest)) (omega (arith, i.high, c.min-piece.ensures, taken)))
    (λ l may. left_more c.args.from size c.loop-at.at _ i.left i.low
    (omega (arith, i.high, c.min-piece.ensures, taken)) l (did.left l may))
    (leaves_on {P = TornFrom c.args.from size (g.D.Device.may_leave c.args.device.now)} i.time did.time
    (left_more c.args.from size c.loop-at.at _ i.left i.low (omega (arith, i.high, c.min-piece.ensures, taken))))
    (kept_then i.kept (did_kept {X = Unit {0}} (Err c.in_err-write.field-0.0) c.in_err-write.ensures.fault did))
    (λ small. omega (arith, small, i.high, count, i.calls, write_calls c.loop-at.at _ false did, c.min-piece.ensures))

pub returns-clause-overwrites : goal.returns-clause-overwrites
returns-clause-overwrites g c =
    let i = c.loop-at.invariant in
    let end : c.loop-at.at ≡ c.args.to = omega (arith, i.high, c.loop-at-test.false) in
    record {
      torn = λ honest. torn_more c.args.from c.loop-at.at 0 c.args.to i.low (i.torn honest)
          (torn_none _ _ _) (omega (arith, end));
      left = i.left;
      time = i.time;
      kept = i.kept;
      calls = λ small. omega (arith, end, i.calls);
      most = λ small. omega (arith, small, end, i.calls);
    }
