use Rattle.std.proofs.Common.{◌≡◌, suc, true, length, ap, ◌∙◌, sym, subst, arith}
use Rattle.journal.specs.Stage.{has_writes, is_ahead}
use Rattle.journal.specs.WriteOuts.{is_at}
use Rattle.journal.specs.inside.Room.{write_outs_in, IsFirst, IsLone, IsJoint}
use Rattle.journal.proofs.Rooms.{at_place, length-write_outs}
use Rattle.journal.proofs.Finding.{newest_is_lone, first_writes, all_join, some_weaker, none_weaker}
use Rattle.journal.proofs.write_outs.WriteOuts.sharing_place.Goals as goal

pub returns-then-is_ahead-clause-lone : goal.returns-then-is_ahead-clause-lone
returns-then-is_ahead-clause-lone g c =
    let queued = c.self.inside.queued.items in
    let end : suc c.in_ok-last.last ≡ length (write_outs_in queued) =
    omega (arith, c.in_ok-last.ensures, c.len.ensures, c.self.inside.queued.ok.0, length-write_outs queued) in
    subst (λ o. IsLone true o.batches c.in_ok-last.last) c.self.view_is
    (newest_is_lone (write_outs_in queued) c.in_ok-last.last end
    (λ d. ap (is_at is_ahead) (at_place queued c.in_ok-last.last c.index.result.now
    (omega (arith, end, length-write_outs queued)) c.index.ensures d)
    ∙ sym c.is_ahead.ensures ∙ c.if-is_ahead.true))

pub returns-clause-lone : goal.returns-clause-lone
returns-clause-lone g c =
    let queued = c.self.inside.queued.items in
    let end : suc c.in_ok-last.last ≡ length (write_outs_in queued) =
    omega (arith, c.in_ok-last.ensures, c.len.ensures, c.self.inside.queued.ok.0, length-write_outs queued) in
    some_weaker (IsFirst (is_at has_writes) c.args.self.now.batches) (IsLone true c.args.self.now.batches)
    c.writer_place.result
    (λ n first. subst (λ o. IsLone true o.batches n) c.self.view_is
    (first_writes c.self.inside.geometry (write_outs_in queued) n c.in_ok-last.last
    (subst (λ o. IsFirst (is_at has_writes) o.batches n) (sym c.self.view_is) first) end
    c.self.invariant.sound.each c.self.invariant.sound.ordered
    (λ d. ap (is_at is_ahead) (at_place queued c.in_ok-last.last c.index.result.now
    (omega (arith, end, length-write_outs queued)) c.index.ensures d)
    ∙ sym c.is_ahead.ensures ∙ c.if-is_ahead.false))) c.writer_place.ensures.some

pub returns-clause-joint : goal.returns-clause-joint
returns-clause-joint g c =
    let queued = c.self.inside.queued.items in
    let end : suc c.in_ok-last.last ≡ length (write_outs_in queued) =
    omega (arith, c.in_ok-last.ensures, c.len.ensures, c.self.inside.queued.ok.0, length-write_outs queued) in
    none_weaker _ _ c.writer_place.result
    (λ none some. subst (λ o. IsJoint true o.batches) c.self.view_is
    (all_join c.self.inside.geometry (write_outs_in queued) c.in_ok-last.last
    (λ e. some (sym (ap (λ o. o.batches) c.self.view_is) ∙ e))
    (ap (λ o. Rattle.std.specs.List.list_any (is_at has_writes) o.batches) c.self.view_is ∙ none) end
    c.self.invariant.sound.each c.self.invariant.sound.ordered
    (λ d. ap (is_at is_ahead) (at_place queued c.in_ok-last.last c.index.result.now
    (omega (arith, end, length-write_outs queued)) c.index.ensures d)
    ∙ sym c.is_ahead.ensures ∙ c.if-is_ahead.false))) c.writer_place.ensures.none
