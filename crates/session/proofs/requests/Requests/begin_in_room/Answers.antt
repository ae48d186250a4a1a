use Rattle.std.proofs.Common.{refl, sym, ◌∙◌, ap, arith}
use Rattle.std.proofs.lemmas.Bool.{false≢true}
use Rattle.session.specs.Files.{round_of}
use Rattle.session.specs.Lengths.{IsTry, reports_begun, reports_later}
use Rattle.session.proofs.Carried.{begins_one, carries_begins, carries_first, carries_more, carries_nothing}
use Rattle.session.proofs.Carried.{carries_one, carries_then}
use Rattle.session.proofs.Each.{each_then}
use Rattle.session.proofs.Lengths.{attempts_first, attempts_later, attempts_one, tries_paging, tries_one}
use Rattle.session.proofs.Rooms.{are_paging}
use Rattle.session.proofs.Taken.{lacking_takes, room_frees_frame}
use Rattle.session.proofs.Turns.{carries_does, in_turn_first, in_turn_more, in_turn_none, in_turn_one, in_turn_then}
use Rattle.session.proofs.requests.Requests.begin_in_room.Goals as goal

pub loop-set-init : goal.loop-set-init
loop-set-init g c = carries_nothing g.D.Device _ _ _ (in_turn_none _ _ tt)

pub returns-then-not-is_no_frame-clause-begins : goal.returns-then-not-is_no_frame-clause-begins
returns-then-not-is_no_frame-clause-begins g c = λ is. carries_begins g.D.Device _ _ _ _ _ _ _ _ _
    (in_turn_then _ _ _ _ _ _ (attempts_later c.args.p c.args.file c.args.length _)) _ _ c.loop-set.invariant
    (begins_one g.D.Device _ _ _ _ _ _ _ _ c.has_phases.ensures is c.make-begun.ensures.makes refl
    (in_turn_one _ _ _ _ _ c.make-begun.ensures.files tt (attempts_one c.args.p c.args.file c.args.length _
    (λ is. false≢true (c.if-not-is_no_frame.ensures.1 is)) _)))

pub returns-then-not-is_no_frame-clause-refuses : goal.returns-then-not-is_no_frame-clause-refuses
returns-then-not-is_no_frame-clause-refuses g c = λ not. carries_then g.D.Device _ _ _ _ _ _ _ _ _
    (in_turn_then _ _ _ _ _ _ (attempts_later c.args.p c.args.file c.args.length _)) c.loop-set.invariant
    (carries_one g.D.Device _ _ _ _ _ _ _ c.make-begun.ensures.makes not
    (in_turn_one _ _ _ _ _ c.make-begun.ensures.files tt (attempts_one c.args.p c.args.file c.args.length _
    (λ is. false≢true (c.if-not-is_no_frame.ensures.1 is)) _)))

pub returns-then-not-make_room-clause-begins : goal.returns-then-not-make_room-clause-begins
returns-then-not-make_room-clause-begins g c =
    λ is. absurd (false≢true (ap reports_begun (sym (c.if-not-is_no_frame.ensures.0 refl)) ∙ is))

pub returns-then-not-make_room-clause-refuses : goal.returns-then-not-make_room-clause-refuses
returns-then-not-make_room-clause-refuses g c = λ not. carries_then g.D.Device _ _ _ _ _ _ _ _ _
    (in_turn_then _ _ _ _ _ _ (attempts_later c.args.p c.args.file c.args.length _)) c.loop-set.invariant
    (carries_first g.D.Device _ _ _ _ _ _ _ _ _ _ (in_turn_first _ _ _ _ _ _ _ c.make-begun.ensures.files tt
    (attempts_first c.args.p c.args.file c.args.length _ (c.if-not-is_no_frame.ensures.0 refl)))
    c.make-begun.ensures.makes not c.if-not-make_room.ensures)

pub loop-set-preserved : goal.loop-set-preserved
loop-set-preserved g c =
    let p = c.args.p in
    let file = c.args.file in
    let to = c.args.length in
    let no-frame = c.if-not-is_no_frame.ensures.0 refl in
    carries_then g.D.Device _ _ _ _ _ _ _ _ _ (in_turn_then _ _ _ _ _ _ (λ all. each_then (IsTry p file to)))
    (carries_then g.D.Device _ _ _ _ _ _ _ _ _ (in_turn_then _ _ _ _ _ _ (λ all. each_then (IsTry p file to)))
    c.loop-set.invariant
    (carries_one g.D.Device _ _ _ _ _ _ _ c.make-begun.ensures.makes (ap reports_begun no-frame)
    (in_turn_one _ _ _ _ _ c.make-begun.ensures.files tt (tries_one p file to _ (ap reports_later no-frame)))))
    (carries_more g.D.Device _ _ _ _ _ _ (in_turn_more _ _ _ _ (λ all steps replies room.
    tries_paging p file to steps replies (are_paging p steps replies room.0))) c.if-not-make_room.ensures)

pub loop-set-smaller : goal.loop-set-smaller
loop-set-smaller g c = omega (
  arith,
  lacking_takes g.D.Device c.args.p _ _ _ _ c.args.file c.args.length _ (c.if-not-is_no_frame.ensures.0 refl)
      c.make-begun.ensures.makes,
  room_frees_frame g.D.Device c.args.p _ _ _ _ (round_of c.make-begun.new.self.files.lines.items)
      (carries_does g.D.Device _ _ _ _ _ _ _ c.if-not-make_room.ensures).makes,
)
