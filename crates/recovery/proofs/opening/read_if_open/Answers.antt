use Rattle.std.proofs.Common.{Err, ap, ◌∙◌, refl, arith}
use Rattle.std.proofs.lemmas.List.{length-map}
use Rattle.std.proofs.lemmas.Result.{err_from_is_err_and}
use Rattle.journal.specs.WriteOut.{IsBatch}
use Rattle.volume_codec.specs.Recovery.{Batch}
use Rattle.recovery.specs.inside.Reading.{batch_of, batches_of}
use Rattle.recovery.proofs.FoundJournals.{read_added, added_falling, added_each, added_length}
use Rattle.recovery.proofs.FoundJournals.{refuses_read, refuses_added, adding_kept}
use Rattle.recovery.proofs.opening.read_if_open.Goals as goal

pub returns-in_err-descriptor-clause-refused : goal.returns-in_err-descriptor-clause-refused
returns-in_err-descriptor-clause-refused g c = λ honest is are.
    let p = err_from_is_err_and c.from_residual.result
    c.from_residual.ensures.1 in
    rw (p.1, p.2) (refuses_read c.args.geometry.now _ c.args.journal _ c.requires.there
    ((c.requires.gate honest).0 c.if-not-is_open.false) (c.in_err-descriptor.ensures.refused honest))

pub returns-in_err-add_journal-clause-refused : goal.returns-in_err-add_journal-clause-refused
returns-in_err-add_journal-clause-refused g c = λ honest is are.
    let p = err_from_is_err_and c.from_residual-in_err-add_journal.result
    c.from_residual-in_err-add_journal.ensures.1 in
    let d = c.in_ok-descriptor.descriptor in
    let batch : Batch = record { journal = c.args.journal; mark = d.mark; homes = d.homes } in
    let gate = (c.requires.gate honest).0 c.if-not-is_open.false in
    rw (p.1, p.2) (refuses_added c.args.geometry.now _ c.args.journal (batches_of c.args.found.now.items) batch _ is are
    (record { there = c.requires.there; gate = gate; descriptor = c.in_ok-descriptor.ensures.descriptor honest }) refl
    c.in_err-add_journal.ensures.refused)

pub returns-in_err-add_journal-clause-kept : goal.returns-in_err-add_journal-clause-kept
returns-in_err-add_journal-clause-kept g c =
    let p = err_from_is_err_and c.from_residual-in_err-add_journal.result
    c.from_residual-in_err-add_journal.ensures.1 in
    let d = c.in_ok-descriptor.descriptor in
    let batch : Batch = record { journal = c.args.journal; mark = d.mark; homes = d.homes } in
    adding_kept batch (batches_of c.args.found.now.items) _ c.from_residual-in_err-add_journal.result
    (p.1 ∙ ap Err p.2) c.in_err-add_journal.ensures.refused
    c.in_ok-descriptor.ensures.kept

pub returns-clause-found : goal.returns-clause-found
returns-clause-found g c = λ honest are.
    let d = c.in_ok-descriptor.descriptor in
    let batch : Batch = record { journal = c.args.journal; mark = d.mark; homes = d.homes } in
    let gate = (c.requires.gate honest).0 c.if-not-is_open.false in
    read_added c.args.geometry.now _ c.args.journal _ _ batch are
    (record { there = c.requires.there; gate = gate; descriptor = c.in_ok-descriptor.ensures.descriptor honest }) refl
    c.in_ok-add_journal.ensures.added

pub returns-clause-falling : goal.returns-clause-falling
returns-clause-falling g c = λ falls. added_falling _ _ _ c.in_ok-add_journal.ensures.added falls

pub returns-clause-carry : goal.returns-clause-carry
returns-clause-carry g c = λ carry.
    added_each (IsBatch c.args.geometry.now) _ _ _ c.in_ok-add_journal.ensures.added carry
    (record { there = c.requires.there; described = c.in_ok-descriptor.ensures.described })

pub returns-clause-calls : goal.returns-clause-calls
returns-clause-calls g c =
    let added = added_length _ (batches_of c.args.found.now.items) (batches_of c.add_journal.new.found.items)
    c.in_ok-add_journal.ensures.added in
    let old = length-map c.args.found.now.items (λ journal. batch_of journal) in
    let new = length-map c.add_journal.new.found.items (λ journal. batch_of journal) in
    (1, omega arith, omega (arith, added, old, new), c.in_ok-descriptor.ensures.calls)
