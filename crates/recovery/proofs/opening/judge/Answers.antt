use Rattle.std.proofs.Common.{inr, Ok, Err, ap, ◌∙◌, arith}
use Rattle.std.proofs.lemmas.Result.{err_from_is_err_and}
use Rattle.volume_codec.specs.Layout.{GeometryValue, journals_of}
use Rattle.recovery.specs.Reading.{batches_of}
use Rattle.recovery.proofs.Parts.{volume_read, journals_refused}
use Rattle.recovery.proofs.Kept.{kept_then, kept_ok, kept_err, unwritten_then, unwritten_of, synced_after}
use Rattle.recovery.proofs.RecoveredLengths.{judges_within}
use Rattle.recovery.proofs.Writing.{did_kept, sync_calls, sync_durable, sync_unwritten}
use Rattle.recovery.proofs.opening.judge.Goals as goal

pub returns-in_err-sync-clause-unwritten : goal.returns-in_err-sync-clause-unwritten
returns-in_err-sync-clause-unwritten g c = λ honest. unwritten_then (unwritten_of c.read_table.ensures.read)
    (sync_unwritten _ c.sync.ensures.did (c.in_ok-table.ensures.kept.honest.1 honest))

pub returns-in_err-sync-clause-kept : goal.returns-in_err-sync-clause-kept
returns-in_err-sync-clause-kept g c =
    let p = err_from_is_err_and c.from_residual-in_err-sync.result c.from_residual-in_err-sync.ensures.1 in
    kept_then c.in_ok-table.ensures.kept (kept_err c.from_residual-in_err-sync.result (p.1 ∙ ap Err p.2)
    (did_kept {X = Unit {0}} (Err c.in_err-sync.field-0.0) c.in_err-sync.ensures.fault c.in_err-sync.ensures.did))

pub returns-in_err-found-clause-refused : goal.returns-in_err-found-clause-refused
returns-in_err-found-clause-refused g c = λ honest.
    let p = err_from_is_err_and c.from_residual-in_err-found.result c.from_residual-in_err-found.ensures.1 in
    let honest_1 = c.in_ok-table.ensures.kept.honest.1 honest in
    let same =
    (unwritten_then (unwritten_of c.read_table.ensures.read) (sync_unwritten _ c.sync.ensures.did honest_1)).same in
    rw (p.1, p.2)
    (journals_refused c.in_ok-table.table c.geometry.result _ _ (c.in_ok-table.ensures.table honest)
    c.in_ok-table.ensures.long c.geometry.ensures.value same c.in_err-found.field-0.0
    (c.in_err-found.ensures.refused (c.in_ok-sync.ensures.did.honest.1 honest_1)))

pub returns-in_err-found-clause-unwritten : goal.returns-in_err-found-clause-unwritten
returns-in_err-found-clause-unwritten g c = λ honest.
    let honest_1 = c.in_ok-table.ensures.kept.honest.1 honest in
    unwritten_then
    (unwritten_then (unwritten_of c.read_table.ensures.read) (sync_unwritten _ c.sync.ensures.did honest_1))
    (unwritten_of c.read_open.ensures.read)

pub returns-in_err-found-clause-kept : goal.returns-in_err-found-clause-kept
returns-in_err-found-clause-kept g c =
    let p = err_from_is_err_and c.from_residual-in_err-found.result c.from_residual-in_err-found.ensures.1 in
    kept_then (kept_then c.in_ok-table.ensures.kept (did_kept {X = Unit {0}} (Ok tt) tt c.in_ok-sync.ensures.did))
    (kept_err c.from_residual-in_err-found.result (p.1 ∙ ap Err p.2) c.in_err-found.ensures.kept)

pub returns-clause-volume : goal.returns-clause-volume
returns-clause-volume g c = λ honest.
    let honest_1 = c.in_ok-table.ensures.kept.honest.1 honest in
    let same =
    (unwritten_then (unwritten_of c.read_table.ensures.read) (sync_unwritten _ c.sync.ensures.did honest_1)).same in
    volume_read c.in_ok-table.table c.geometry.result _ _ (c.in_ok-table.ensures.table honest)
    c.in_ok-table.ensures.long c.geometry.ensures.value same (batches_of c.in_ok-found.found.items)
    (c.in_ok-found.ensures.found (c.in_ok-sync.ensures.did.honest.1 honest_1))

pub returns-clause-synced : goal.returns-clause-synced
returns-clause-synced g c = λ honest.
    let honest_1 = c.in_ok-table.ensures.kept.honest.1 honest in
    synced_after {disk = g.D.Device} (unwritten_of c.read_open.ensures.read)
    (sync_durable c.in_ok-sync.ensures.did honest_1)

pub returns-clause-unwritten : goal.returns-clause-unwritten
returns-clause-unwritten g c = λ honest.
    let honest_1 = c.in_ok-table.ensures.kept.honest.1 honest in
    unwritten_then
    (unwritten_then (unwritten_of c.read_table.ensures.read) (sync_unwritten _ c.sync.ensures.did honest_1))
    (unwritten_of c.read_open.ensures.read)

pub returns-clause-kept : goal.returns-clause-kept
returns-clause-kept g c = kept_then (kept_then c.in_ok-table.ensures.kept
    (did_kept {X = Unit {0}} (Ok tt) tt c.in_ok-sync.ensures.did)) (kept_ok _ c.in_ok-found.ensures.kept)

pub returns-clause-calls : goal.returns-clause-calls
returns-clause-calls g c = λ small.
    let journals = ap (λ (h : GeometryValue). journals_of h.layout) c.geometry.ensures.value in
    omega (arith, journals, c.in_ok-table.ensures.calls, sync_calls _ c.sync.ensures.did, c.in_ok-found.ensures.calls)

pub returns-in_err-found-clause-most : goal.returns-in_err-found-clause-most
returns-in_err-found-clause-most g c = λ honest.
    let journals = ap (λ (h : GeometryValue). journals_of h.layout) c.geometry.ensures.value in
    let within = judges_within _ _ _ _ _ _ journals c.in_ok-table.ensures.calls (sync_calls _ c.sync.ensures.did)
    c.read_open.ensures.most in
    inr (c.in_ok-table.table, c.in_ok-table.ensures.table honest, within)

pub returns-clause-most : goal.returns-clause-most
returns-clause-most g c = λ honest.
    let journals = ap (λ (h : GeometryValue). journals_of h.layout) c.geometry.ensures.value in
    let within = judges_within _ _ _ _ _ _ journals c.in_ok-table.ensures.calls (sync_calls _ c.sync.ensures.did)
    c.read_open.ensures.most in
    inr (c.in_ok-table.table, c.in_ok-table.ensures.table honest, within)

pub returns-clause-within : goal.returns-clause-within
returns-clause-within g c =
    let journals = ap (λ (h : GeometryValue). journals_of h.layout) c.geometry.ensures.value in
    judges_within _ _ _ _ _ _ journals c.in_ok-table.ensures.calls (sync_calls _ c.sync.ensures.did)
    c.read_open.ensures.most
