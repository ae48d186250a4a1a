use Rattle.std.proofs.Common.{sym}
use Rattle.machine.specs.declared.act.Reply.{Reply}
use Rattle.machine.specs.declared.act.Step.{Step}
use Rattle.session.specs.Steps.{ArePaging, IsPaging}
use Rattle.session.proofs.Carried.{carries_first, carries_more, carries_one, carries_then}
use Rattle.session.proofs.Each.{ends_one}
use Rattle.session.proofs.Rooms.{access_paging, access_quiet, access_own, answered_no_fault, ends_later}
use Rattle.session.proofs.Rooms.{serves_paging, stops_unserved}
use Rattle.session.proofs.Turns.{access_aside, carries_does, in_turn_first, in_turn_more, in_turn_one, in_turn_then}
use Rattle.session.proofs.requests.Requests.access.Goals as goal

pub returns-then-not-is_fault-clause-ok : goal.returns-then-not-is_fault-clause-ok
returns-then-not-is_fault-clause-ok g c =
    carries_one g.D.Device _ _ _ _ _ _ _ c.make-reply.ensures.makes
    (access_quiet c.args.va c.args.write _ _ c.requires)
    (in_turn_one _ _ _ _ _ c.make-reply.ensures.files (access_aside c.args.va c.args.write _ c.requires) (ends_one _ _))

pub returns-then-not-is_fault-clause-no_fault : goal.returns-then-not-is_fault-clause-no_fault
returns-then-not-is_fault-clause-no_fault g c = sym c.if-not-is_fault.ensures

pub returns-then-not-is_fixed-clause-err : goal.returns-then-not-is_fixed-clause-err
returns-then-not-is_fixed-clause-err g c =
    let step : Step = record { p = c.args.p; act = c.args.act } in
    let fault = sym c.if-not-is_fault.ensures in
    carries_first g.D.Device _ _ _ _ _ _ _ _ _ _
    (in_turn_first _ _ _ _ _ _ _ c.make-reply.ensures.files (access_aside c.args.va c.args.write _ c.requires)
    (stops_unserved step c.args.va c.args.write _ _ (
      access_paging c.args.va c.args.write _ _ c.requires fault,
      access_own c.args.va c.args.write c.args.p c.args.act c.requires,
    ) c.requires fault)) c.make-reply.ensures.makes
    (access_quiet c.args.va c.args.write _ _ c.requires) (c.fix-fixed.ensures.ends (sym c.if-not-is_fixed.ensures))

pub returns-clause-ok : goal.returns-clause-ok
returns-clause-ok g c =
    let step : Step = record { p = c.args.p; act = c.args.act } in
    let quiet = λ (reply : Reply). access_quiet c.args.va c.args.write c.args.act reply c.requires in
    let aside = access_aside c.args.va c.args.write c.args.act c.requires in
    let paging : IsPaging c.args.p step c.make-reply.result = (
      access_paging c.args.va c.args.write _ _ c.requires (sym c.if-not-is_fault.ensures),
      access_own c.args.va c.args.write c.args.p c.args.act c.requires,
    ) in
    carries_then g.D.Device _ _ _ _ _ _ _ _ _ (in_turn_then _ _ _ _ _ _ (λ all. ends_later step c.make-last.result))
    (carries_first g.D.Device _ _ _ _ _ _ _ _ _ _ (in_turn_first _ _ _ (λ _. ArePaging c.args.p)
    (λ _. ArePaging c.args.p) _ _ c.make-reply.ensures.files aside (λ all steps replies later. (paging, later)))
    c.make-reply.ensures.makes (quiet _) (carries_more g.D.Device _ _ _ _ _ _
    (in_turn_more _ _ _ _ (λ all. serves_paging c.args.p c.args.va c.args.write))
    (c.fix-fixed.ensures.served (sym c.if-not-is_fixed.ensures))))
    (carries_one g.D.Device _ _ _ _ _ _ _ c.make-last.ensures.makes (quiet _)
    (in_turn_one _ _ _ _ _ c.make-last.ensures.files aside (ends_one _ _)))

pub returns-clause-no_fault : goal.returns-clause-no_fault
returns-clause-no_fault g c =
    let step : Step = record { p = c.args.p; act = c.args.act } in
    answered_no_fault g.D.Device _ _ _ _ _ _ c.args.va c.args.write step _ c.requires c.faults_are_served.ensures
    (carries_does g.D.Device _ _ _ _ _ _ _ (c.fix-fixed.ensures.served
    (sym c.if-not-is_fixed.ensures))).makes c.make-last.ensures.makes
