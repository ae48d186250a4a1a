use Rattle.std.proofs.Common.{rules, ◌≡◌, ◌++◌, [], ◌∷◌, List, Err, ap, sym, subst, ◌∙◌}
use Rattle.std.specs.List.{AllByRecursion}
use Rattle.std.proofs.lemmas.List.{append_assoc, append-nil, map-append}
use Rattle.std.proofs.lemmas.Result.{err_from_is_err_and}
use Rattle.volume_codec.specs.Recovery.{Batch}
use Rattle.journal.specs.WriteOut.{IsBatch}
use Rattle.recovery.specs.inside.Carrying.{IsCarrying}
use Rattle.recovery.specs.inside.Reading.{batch_of, batches_of}
use Rattle.recovery.proofs.Kept.{kept_none, kept_then, kept_ok, kept_err}
use Rattle.recovery.proofs.Carrying.{each_unpush, finished_kept, failed_kept, carrying_none}
use Rattle.recovery.proofs.Carrying.{carrying_more, carrying_failed, carrying_all}
use Rattle.recovery.proofs.opening.carry_out_all.Goals.{In-Some}
use Rattle.recovery.proofs.opening.carry_out_all.Goals as goal

pub loop-oldest-init : goal.loop-oldest-init
loop-oldest-init g c = record {
  kept = kept_none g.D.Device c.args.device.now;
  carry = c.requires.carry;
  under = (
    [],
    sym (append-nil (batches_of c.args.found.items)),
    tt,
    carrying_none g.D.Device c.args.geometry.now (batches_of c.args.found.items) c.args.device.now
        (g.met.D.Device.since_now c.args.device.now),
  );
}

-- those that waited are those that wait still, and the oldest one
popped : (g : _) (c : In-Some g) → batches_of c.loop-oldest.waiting.items
    ≡ batches_of c.pop.new.self.items ++ batch_of c.in-Some.oldest ∷ []
popped g c = ap batches_of c.in-Some.ensures.items
    ∙ map-append batch_of c.pop.new.self.items (c.in-Some.oldest ∷ [])

-- each of them is a batch of the volume
batches : (g : _) (c : In-Some g)
    → AllByRecursion (IsBatch c.args.geometry.now) (batches_of c.pop.new.self.items)
    × IsBatch c.args.geometry.now (batch_of c.in-Some.oldest)
batches g c = each_unpush (IsBatch c.args.geometry.now) (batches_of c.pop.new.self.items) (batch_of c.in-Some.oldest)
    (subst (AllByRecursion (IsBatch c.args.geometry.now)) (popped g c) c.loop-oldest.invariant.carry)

-- how far carrying out came before the oldest one
so_far : (g : _) (c : In-Some g) → let i = c.loop-oldest.invariant in
    let waited = batches_of c.pop.new.self.items ++ batch_of c.in-Some.oldest ∷ [] in
    (batches_of c.args.found.items ≡ waited ++ i.under.0)
    × IsCarrying g.D.Device c.args.geometry.now (batches_of c.args.found.items) waited i.under.0 c.args.device.now
    c.loop-oldest.device
so_far g c =
    let i = c.loop-oldest.invariant in (
      i.under.1 ∙ ap (λ (l : List Batch). l ++ i.under.0) (popped g c),
      subst (λ (l : List Batch). IsCarrying g.D.Device c.args.geometry.now (batches_of c.args.found.items) l i.under.0
          c.args.device.now c.loop-oldest.device) (popped g c) i.under.3,
    )

pub carry_out-requires-clause-batch : goal.carry_out-requires-clause-batch
carry_out-requires-clause-batch g c = (batches g (goal.at.carry_out-requires-clause-batch g c).In-Some).1

pub returns-in_err-carry_out-clause-carries : goal.returns-in_err-carry_out-clause-carries
returns-in_err-carry_out-clause-carries g c =
    let far = so_far g (goal.at.returns-in_err-carry_out-clause-carries g c).In-Some in
    let p = err_from_is_err_and c.from_residual.result c.from_residual.ensures.1 in
    rw (p.1, p.2) (carrying_failed g.D.Device c.args.geometry.now (batches_of c.args.found.items) c.args.device.now
    g.met.D.Device.seen_is_left g.met.D.Device.now_is_since
    (batches_of c.pop.new.self.items) c.loop-oldest.invariant.under.0 (batch_of c.in-Some.oldest) c.loop-oldest.device
    c.carry_out.new.device far.1 _ far.0 c.in_err-carry_out.ensures.finishes)

pub returns-in_err-carry_out-clause-kept : goal.returns-in_err-carry_out-clause-kept
returns-in_err-carry_out-clause-kept g c =
    let p = err_from_is_err_and c.from_residual.result c.from_residual.ensures.1 in
    kept_then c.loop-oldest.invariant.kept (kept_err c.from_residual.result (p.1 ∙ ap Err p.2)
    (failed_kept c.in_err-carry_out.ensures.fault c.in_err-carry_out.ensures.finishes))

pub loop-oldest-preserved : goal.loop-oldest-preserved
loop-oldest-preserved g c =
    let at = (goal.at.loop-oldest-preserved g c).In-Some in
    let i = c.loop-oldest.invariant in
    let batch = batch_of c.in-Some.oldest in
    let waiting = batches_of c.pop.new.self.items in
    let far = so_far g at in
    let carry = batches g at in
    let finishes = c.in_ok-carry_out.ensures.finishes in
    record {
      kept = kept_ok tt (kept_then i.kept (finished_kept finishes));
      carry = carry.0;
      under = (
        batch ∷ i.under.0,
        far.0 ∙ append_assoc waiting (batch ∷ []) i.under.0,
        (carry.1, i.under.2),
        carrying_more g.D.Device c.args.geometry.now (batches_of c.args.found.items) c.args.device.now
            g.met.D.Device.seen_is_left g.met.D.Device.now_is_since
            waiting i.under.0 batch c.loop-oldest.device c.carry_out.new.device far.1 i.under.2
            i.kept.honest.1 finishes,
      );
    }

pub returns-clause-carries : goal.returns-clause-carries
returns-clause-carries g c =
    let i = c.loop-oldest.invariant in
    let all = batches_of c.args.found.items in
    let none : c.loop-oldest.waiting.items ≡ [] = search rules in
    let ended = ap batches_of none in
    carrying_all g.D.Device c.args.geometry.now all c.args.device.now i.under.0 c.loop-oldest.device
    (i.under.1 ∙ ap (λ (l : List Batch). l ++ i.under.0) ended)
    (subst (λ (l : List Batch). IsCarrying g.D.Device c.args.geometry.now all l i.under.0 c.args.device.now
    c.loop-oldest.device) ended i.under.3)
