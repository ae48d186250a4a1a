use Rattle.std.proofs.Common.{refl, ◌≡◌, ◌<◌, ◌≤◌, length, true, false, sym, ◌∙◌, arith}
use Rattle.std.proofs.lemmas.Bool.{false≢true}
use Rattle.std.proofs.lemmas.List.{length-map, take_all}
use Rattle.crash_states.specs.Calls.{call_of, device_calls_of, calls_until}
use Rattle.crash_states.proofs.Until.{same_next, same_here, count_within, as_long, other_length}
use Rattle.crash_states.proofs.call.are_until.Goals as goal

pub returns-then-made-count_until : goal.returns-then-made-count_until
returns-then-made-count_until g c = (
  λ (no : false ≡ true). absurd (false≢true no),
  λ same. absurd (c.if-made-count_until.true
      (other_length c.args.made.now c.args.calls.now c.args.fails same ∙ sym c.count_until.ensures)),
)

pub loop-i-preserved : goal.loop-i-preserved
loop-i-preserved g c =
    let made = c.args.made.now in
    let calls = c.args.calls.now in
    let count = c.if-made-count_until.false ∙ c.count_until.ensures in
    let below : c.loop-i.i < length calls =
    omega (arith, count, count_within (length calls) c.args.fails, c.loop-i-test.true) in
    same_next made calls c.args.fails c.loop-i.i c.index-made-i.result c.index-calls-i.result c.loop-i-test.true below
    c.index-made-i.is c.index-calls-i.is (as_long made calls c.args.fails count)
    (length-map made (λ k. call_of k)) (c.is_same.ensures.0 c.if-not-is_same.false) c.loop-i.invariant

pub returns-then-not-is_same : goal.returns-then-not-is_same
returns-then-not-is_same g c =
    let made = c.args.made.now in
    let calls = c.args.calls.now in
    let count = c.if-made-count_until.false ∙ c.count_until.ensures in
    let below : c.loop-i.i < length calls =
    omega (arith, count, count_within (length calls) c.args.fails, c.loop-i-test.true) in (
      λ (no : false ≡ true). absurd (false≢true no),
      λ same. absurd (false≢true (sym c.if-not-is_same.true ∙ c.is_same.ensures.1
          (same_here made calls c.args.fails c.loop-i.i c.index-made-i.result c.index-calls-i.result
          c.loop-i-test.true below c.index-made-i.is c.index-calls-i.is (as_long made calls c.args.fails count)
          (length-map made (λ k. call_of k)) same))),
    )

pub returns : goal.returns
returns g c =
    let made = device_calls_of c.args.made.now in
    let all = calls_until (device_calls_of c.args.calls.now) c.args.fails in
    let count = c.if-made-count_until.false ∙ c.count_until.ensures in
    let long : length made ≡ length all = as_long c.args.made.now c.args.calls.now c.args.fails count in
    let past : length made ≤ c.loop-i.i =
    omega (arith, length-map c.args.made.now (λ k. call_of k), c.loop-i-test.false) in (
      λ yes. sym (take_all c.loop-i.i made past) ∙ c.loop-i.invariant
          ∙ take_all c.loop-i.i all (omega (arith, long, past)),
      λ same. refl,
    )
