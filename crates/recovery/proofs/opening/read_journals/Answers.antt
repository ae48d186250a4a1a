use Rattle.std.proofs.Common.{◌≡◌, ◌+◌, ℕ, List, subst, sym, ◌∙◌, ap, Err, arith}
use Rattle.std.proofs.lemmas.Result.{err_from_is_err_and}
use Rattle.volume_codec.specs.Layout.{journals_of}
use Rattle.recovery.specs.inside.Reading.{batches_of, AreRead, RefusesJournals}
use Rattle.recovery.proofs.FoundJournals.{all_read}
use Rattle.recovery.proofs.Kept.{kept_then, kept_ok, kept_err, read_then}
use Rattle.recovery.proofs.opening.read_journals.Goals as goal

pub returns-in_err-read_if_open-clause-read : goal.returns-in_err-read_if_open-clause-read
returns-in_err-read_if_open-clause-read g c = read_then c.loop-journal.invariant.read c.in_err-read_if_open.ensures.read

pub returns-in_err-read_if_open-clause-kept : goal.returns-in_err-read_if_open-clause-kept
returns-in_err-read_if_open-clause-kept g c =
    let p = err_from_is_err_and c.from_residual.result c.from_residual.ensures.1 in
    kept_then c.loop-journal.invariant.kept
    (kept_err c.from_residual.result (p.1 ∙ ap Err p.2) c.in_err-read_if_open.ensures.kept)

pub returns-in_err-read_if_open-clause-refused : goal.returns-in_err-read_if_open-clause-refused
returns-in_err-read_if_open-clause-refused g c = λ honest.
    let p = err_from_is_err_and c.from_residual.result c.from_residual.ensures.1 in
    let i = c.loop-journal.invariant in
    let P : List ℕ → Type 0 = λ bytes. RefusesJournals c.args.geometry.now bytes c.in_err-read_if_open.field-0.0 in
    let same = i.read.same in
    let Q : List ℕ → Type 0 = λ bytes. AreRead c.args.geometry.now bytes c.loop-journal.journal
    (batches_of c.loop-journal.found.items) in
    rw (p.1, p.2) (subst P same (c.in_err-read_if_open.ensures.refused (i.kept.honest.1 honest)
    c.journals-journals.ensures.geometry (subst Q (sym same) (i.found honest))))

pub loop-journal-preserved : goal.loop-journal-preserved
loop-journal-preserved g c =
    let i = c.loop-journal.invariant in
    let e = c.in_ok-read_if_open.ensures in
    record {
      kept = kept_ok tt (kept_then i.kept e.kept);
      read = read_then i.read e.read;
      found = λ honest.
          let same = i.read.same in
          let P : List ℕ → Type 0 = λ bytes.
          AreRead c.args.geometry.now bytes c.loop-journal.journal (batches_of c.loop-journal.found.items) in
          let Q : List ℕ → Type 0 = λ bytes. AreRead c.args.geometry.now bytes (c.loop-journal.journal + 1)
          (batches_of c.read_if_open.new.found.items) in
          subst Q same (e.found (i.kept.honest.1 honest) (subst P (sym same) (i.found honest)));
      falling = e.falling i.falling;
      carry = e.carry i.carry;
      room = e.room_stays ∙ i.room;
      few = omega (arith, i.few, e.calls.1, e.calls.2);
      calls = λ small. omega (arith, i.calls, e.calls.2, e.calls.3);
    }

pub returns-clause-found : goal.returns-clause-found
returns-clause-found g c = λ honest.
    let i = c.loop-journal.invariant in
    let bytes = g.D.Device.seen c.args.device.now in
    let batches = batches_of c.loop-journal.found.items in
    let last : c.loop-journal.journal ≡ journals_of c.args.geometry.now.layout =
    omega (arith, c.journals-journals.ensures.value) in
    let P : ℕ → Type 0 = λ n. AreRead c.args.geometry.now bytes n batches in
    all_read c.args.geometry.now bytes batches (subst P last (i.found honest)) i.falling
