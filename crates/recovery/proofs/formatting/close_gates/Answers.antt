use Rattle.std.proofs.Common.{◌≡◌, ℕ, ◌*◌, ◌-◌, true, false, Ok, Err, refl, ap, ◌∙◌, subst, arith}
use Rattle.std.proofs.lemmas.Result.{err_from_is_err_and}
use Rattle.device.specs.Device.{TornFrom}
use Rattle.device.proofs.Moments.{leaves_at_start, leaves_on}
use Rattle.device.proofs.Ranges.{torn_none, torn_twice, torn_wider, torn_from_none}
use Rattle.volume_codec.specs.Layout.{journals_of}
use Rattle.volume_codec.proofs.Layouts.{first_home-within}
use Rattle.recovery.specs.inside.Erasing.{AreClosed}
use Rattle.recovery.proofs.Erased.{close_more, left_more}
use Rattle.recovery.proofs.Kept.{kept_none, kept_then}
use Rattle.recovery.proofs.Writing.{did_kept, overwritten_failed, write_torn, write_calls}
use Rattle.recovery.proofs.formatting.close_gates.Goals as goal

pub write-requires : goal.write-requires
write-requires g c =
    let low = c.gate_block-gate.ensures.low in
    omega (
      arith,
      low,
      first_home-within c.args.geometry.now c.gate_block-gate.ensures.geometry,
      c.loop-journal.invariant.kept.len,
      c.requires,
      c.from.ensures,
    )

pub loop-journal-init : goal.loop-journal-init
loop-journal-init g c =
    let size = 4096 * c.args.geometry.now.blocks - 4096 in
    record {
      closed = λ honest. record { same_length = refl; gates = λ j low. absurd (omega arith); others = λ i out. refl };
      torn = λ honest. torn_none _ _ _;
      left = λ l may. torn_from_none 4096 size may;
      time = leaves_at_start (λ l since. torn_from_none 4096 size (g.met.D.Device.since_now c.args.device.now l since));
      kept = kept_none g.D.Device c.args.device.now;
      calls = λ small. omega arith;
    }

pub loop-journal-preserved : goal.loop-journal-preserved
loop-journal-preserved g c =
    let i = c.loop-journal.invariant in
    let did = c.in_ok-write.ensures.did in
    let size = 4096 * c.args.geometry.now.blocks - 4096 in
    let low = c.gate_block-gate.ensures.low in
    let blocks = first_home-within c.args.geometry.now c.gate_block-gate.ensures.geometry in
    record {
      closed = λ honest. close_more c.args.geometry.now.slots c.loop-journal.journal _ c.gate_block-gate.result _ _ _ _
          (i.closed honest) c.gate_block-gate.ensures.value (omega (arith, c.from.ensures)) refl
          (omega (arith, low, blocks, c.requires, c.from.ensures)) (did.seen (i.kept.honest.1 honest));
      torn = λ honest. torn_twice (i.torn honest) (torn_wider (write_torn _ _ true
          (omega (arith, low, blocks, i.kept.len, c.requires, c.from.ensures)) did (i.kept.honest.1 honest)) 4096 size
          (omega (arith, c.gate_block-gate.ensures.value, c.from.ensures))
          (omega (arith, low, blocks, c.from.ensures)));
      left = λ l may. left_more 4096 size _ _ i.left (omega (arith, c.gate_block-gate.ensures.value, c.from.ensures))
          (omega (arith, low, blocks, c.from.ensures)) l (did.left l may);
      time = leaves_on {P = TornFrom 4096 size (g.D.Device.may_leave c.args.device.now)} i.time did.time
          (left_more 4096 size _ _ i.left (omega (arith, c.gate_block-gate.ensures.value, c.from.ensures))
          (omega (arith, low, blocks, c.from.ensures)));
      kept = kept_then i.kept (did_kept (Ok tt) tt did);
      calls = λ small. omega (arith, i.calls, write_calls _ _ true did);
    }

pub returns-in_err-write-clause-overwrites : goal.returns-in_err-write-clause-overwrites
returns-in_err-write-clause-overwrites g c =
    let i = c.loop-journal.invariant in
    let did = c.in_err-write.ensures.did in
    let size = 4096 * c.args.geometry.now.blocks - 4096 in
    let low = c.gate_block-gate.ensures.low in
    let blocks = first_home-within c.args.geometry.now c.gate_block-gate.ensures.geometry in
    let p = err_from_is_err_and c.from_residual.result c.from_residual.ensures.1 in
    overwritten_failed 4096 size (journals_of c.args.geometry.now.layout) c.from_residual.result (p.1 ∙ ap Err p.2)
    (λ honest. torn_twice (i.torn honest) (torn_wider (write_torn _ _ false
    (omega (arith, low, blocks, i.kept.len, c.requires, c.from.ensures)) did (i.kept.honest.1 honest)) 4096 size
    (omega (arith, c.gate_block-gate.ensures.value, c.from.ensures)) (omega (arith, low, blocks, c.from.ensures))))
    (λ l may. left_more 4096 size _ _ i.left (omega (arith, c.gate_block-gate.ensures.value, c.from.ensures))
    (omega (arith, low, blocks, c.from.ensures)) l (did.left l may))
    (leaves_on {P = TornFrom 4096 size (g.D.Device.may_leave c.args.device.now)} i.time did.time
    (left_more 4096 size _ _ i.left (omega (arith, c.gate_block-gate.ensures.value, c.from.ensures))
    (omega (arith, low, blocks, c.from.ensures))))
    (kept_then i.kept (did_kept {X = Unit {0}} (Err c.in_err-write.field-0.0) c.in_err-write.ensures.fault did))
    (λ small. omega (arith, small, i.calls, write_calls _ _ false did))

pub returns-clause-overwrites : goal.returns-clause-overwrites
returns-clause-overwrites g c =
    let i = c.loop-journal.invariant in
    let end : c.loop-journal.journal ≡ journals_of c.args.geometry.now.layout =
    omega (arith, c.loop-journal-test.false, c.journals-journal-end.ensures) in
    record {
      torn = i.torn;
      left = i.left;
      time = i.time;
      kept = i.kept;
      calls = λ small. omega (arith, end, i.calls);
      most = λ small. omega (arith, small, end, i.calls);
    }

pub returns-clause-closed : goal.returns-clause-closed
returns-clause-closed g c = λ honest.
    let end : c.loop-journal.journal ≡ journals_of c.args.geometry.now.layout =
    omega (arith, c.loop-journal-test.false, c.journals-journal-end.ensures) in
    let P : ℕ → Type 0 = λ n. AreClosed c.args.geometry.now.slots n (g.D.Device.seen c.args.device.now)
    (g.D.Device.seen c.loop-journal.device) in
    subst P end (c.loop-journal.invariant.closed honest)
