use Rattle.std.proofs.Common.{◌≡◌, ◌<◌, ℕ, List, length, get_or, inl, inr, ap, ◌∙◌, sym, arith}
use Rattle.std.proofs.lemmas.Bool.{cases_eq}
use Rattle.journal.specs.Stage.{has_writes}
use Rattle.journal.specs.WriteOut.{WriteOut}
use Rattle.journal.specs.WriteOuts.{is_at}
use Rattle.journal.specs.inside.Queued.{QueuedWriteOut}
use Rattle.journal.specs.inside.Room.{write_outs_in}
use Rattle.journal.proofs.Finding.{none_at_all}
use Rattle.journal.proofs.Rooms.{at_place, length-write_outs}
use Rattle.journal.proofs.write_outs.WriteOuts.writer_place.Goals as goal

-- whether the one at a place writes
its_writes : (queued : List QueuedWriteOut) (batches : List WriteOut) → write_outs_in queued ≡ batches
    → (place : ℕ) (one : QueuedWriteOut) (d : WriteOut) → place < length batches → one ≡ get_or queued place one
    → is_at has_writes (get_or batches place d) ≡ is_at has_writes one.write_out
its_writes queued batches are place one d lt here = ap (is_at has_writes)
    (ap (λ (l : List WriteOut). get_or l place d) (sym are)
    ∙ at_place queued place one (omega (arith, lt, length-write_outs queued, ap length are)) here d)

pub loop-place-init : goal.loop-place-init
loop-place-init g c = record {
  before = λ i d lt within. absurd (omega (arith, lt));
  all = omega (
    arith,
    c.len-place-end.ensures,
    c.self.inside.queued.ok.0,
    length-write_outs c.self.inside.queued.items,
    ap length (ap (λ o. o.batches) c.self.view_is),
  );
}

pub returns-then-writes-clause-some : goal.returns-then-writes-clause-some
returns-then-writes-clause-some g c = record {
  within = omega (arith, c.loop-place-test.true, c.loop-place.invariant.all);
  it = λ d. (its_writes c.self.inside.queued.items c.args.self.now.batches
      (ap (λ o. o.batches) c.self.view_is) c.loop-place.place
      c.index.result.now d (omega (arith, c.loop-place-test.true, c.loop-place.invariant.all)) c.index.ensures
      ∙ sym c.writes.ensures) ∙ c.if-writes.true;
  before = λ i d lt.
      c.loop-place.invariant.before i d lt
      (omega (arith, lt, c.loop-place-test.true, c.loop-place.invariant.all));
}

pub loop-place-preserved : goal.loop-place-preserved
loop-place-preserved g c = record {
  before = λ i d lt within. elim (cases_eq i c.loop-place.place) [
    | inl same ↦ ap (λ n. is_at has_writes (get_or c.args.self.now.batches n d)) same
        ∙ (its_writes c.self.inside.queued.items c.args.self.now.batches
        (ap (λ o. o.batches) c.self.view_is) c.loop-place.place
        c.index.result.now d (omega (arith, c.loop-place-test.true, c.loop-place.invariant.all)) c.index.ensures
        ∙ sym c.writes.ensures) ∙ c.if-writes.false
    | inr other ↦ c.loop-place.invariant.before i d (omega (arith, lt, other)) within
  ];
  all = c.loop-place.invariant.all;
}

pub returns-clause-none : goal.returns-clause-none
returns-clause-none g c = none_at_all (is_at has_writes) c.args.self.now.batches
    (λ i d lt. c.loop-place.invariant.before i d
    (omega (arith, lt, c.loop-place-test.false, c.loop-place.invariant.all)) lt)
