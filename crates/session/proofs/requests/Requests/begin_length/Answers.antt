use Rattle.std.proofs.Common.{refl, sym, ◌∙◌, ap, arith}
use Rattle.std.proofs.lemmas.Bool.{false≢true}
use Rattle.session.specs.Lengths.{EndsWaiting, IsTry, reports_begun, reports_later}
use Rattle.session.specs.inside.Made.{Waits}
use Rattle.session.proofs.Carried.{begins_more, carries_begins, carries_more, carries_nothing, carries_then}
use Rattle.session.proofs.Each.{each_then}
use Rattle.session.proofs.Left.{attempts_left, waited_fewer}
use Rattle.session.proofs.Lengths.{begins_attempted, begins_later, refuses_attempted, refuses_later, refuses_waiting}
use Rattle.session.proofs.Lengths.{tries_attempted, tries_waited}
use Rattle.session.proofs.Turns.{carries_does, ends_aside, in_turn_kept, in_turn_more, in_turn_none}
use Rattle.session.proofs.Turns.{in_turn_then, waits_aside}
use Rattle.session.proofs.requests.Requests.begin_length.Goals as goal

pub loop-begun-init : goal.loop-begun-init
loop-begun-init g c = carries_nothing g.D.Device _ _ _ (in_turn_none _ _ tt)

pub returns-then-not-is_busy-clause-begins : goal.returns-then-not-is_busy-clause-begins
returns-then-not-is_busy-clause-begins g c = λ is. carries_begins g.D.Device _ _ _ _ _ _ _ _ _
    (in_turn_then _ _ _ _ _ _ (λ all. begins_later c.args.p c.args.file c.args.length)) _ _ c.loop-begun.invariant
    (begins_more g.D.Device _ _ _ _ _ _ _ _
    (in_turn_more _ _ _ _ (begins_attempted c.args.p c.args.file c.args.length _ is))
    (c.begin_in_room-begun.ensures.begins is))

pub returns-then-not-is_busy-clause-refuses : goal.returns-then-not-is_busy-clause-refuses
returns-then-not-is_busy-clause-refuses g c = λ vain. carries_then g.D.Device _ _ _ _ _ _ _ _ _
    (in_turn_then _ _ _ _ _ _ (refuses_later c.args.p c.args.file c.args.length _)) c.loop-begun.invariant
    (carries_more g.D.Device _ _ _ _ _ _ (in_turn_more _ _ _ _
    (refuses_attempted c.args.p c.args.file c.args.length _ vain
    (λ is. false≢true (c.if-not-is_busy.ensures.1 is)))) (c.begin_in_room-begun.ensures.refuses vain))

pub returns-in-Some-clause-begins : goal.returns-in-Some-clause-begins
returns-in-Some-clause-begins g c = λ is. absurd (false≢true (sym c.in-Some.ensures.unbegun ∙ is))

pub returns-in-Some-clause-refuses : goal.returns-in-Some-clause-refuses
returns-in-Some-clause-refuses g c = λ vain.
    let busy = c.if-not-is_busy.ensures.0 refl in
    carries_then g.D.Device _ _ _ _ _ _ _ _ _
    (in_turn_then _ _ _ _ _ _ (refuses_later c.args.p c.args.file c.args.length _))
    c.loop-begun.invariant (carries_then g.D.Device _ _ _ _ _ _ _ _ _
    (in_turn_then _ _ _ _ _ _ (refuses_waiting c.args.p c.args.file c.args.length _ _ busy))
    (c.begin_in_room-begun.ensures.refuses (ap reports_begun busy)) (carries_more g.D.Device _ _ _ _ _ _
    (in_turn_kept _ _ (EndsWaiting c.args.p c.in-Some.answer) c.wait.ensures.files (ends_aside c.args.p _))
    c.in-Some.ensures.ends))

pub loop-begun-preserved : goal.loop-begun-preserved
loop-begun-preserved g c =
    let p = c.args.p in
    let file = c.args.file in
    let to = c.args.length in
    let busy = c.if-not-is_busy.ensures.0 refl in
    carries_then g.D.Device _ _ _ _ _ _ _ _ _ (in_turn_then _ _ _ _ _ _ (λ all. each_then (IsTry p file to)))
    (carries_then g.D.Device _ _ _ _ _ _ _ _ _ (in_turn_then _ _ _ _ _ _ (λ all. each_then (IsTry p file to)))
    c.loop-begun.invariant
    (carries_more g.D.Device _ _ _ _ _ _ (in_turn_more _ _ _ _ (tries_attempted p file to _ (ap reports_later busy)))
    (c.begin_in_room-begun.ensures.refuses (ap reports_begun busy))))
    (carries_more g.D.Device _ _ _ _ _ _ (in_turn_more _ _ _ _ (λ all. tries_waited p file to))
    (carries_more g.D.Device _ _ _ _ _ _ (in_turn_kept _ _ (Waits p) c.wait.ensures.files (waits_aside p))
    c.in_default.ensures.waits))

pub loop-begun-smaller : goal.loop-begun-smaller
loop-begun-smaller g c =
    let busy = c.if-not-is_busy.ensures.0 refl in
    omega (
      arith,
      attempts_left g.D.Device _ _ _ _ c.args.p c.args.file c.args.length _ busy _
          (carries_does g.D.Device _ _ _ _ _ _ _
          (c.begin_in_room-begun.ensures.refuses (ap reports_begun busy))).makes,
      waited_fewer g.D.Device _ _ _ _ c.args.p c.in_default.ensures.waits.makes,
    )
