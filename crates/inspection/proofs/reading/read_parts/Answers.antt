use Rattle.std.proofs.lemmas.Result.{err_from_is_err_and}
use Rattle.recovery.specs.Reading.{batches_of}
use Rattle.recovery.proofs.Public.{read_then, volume_read, journals_refused}
use Rattle.inspection.proofs.reading.read_parts.Goals as goal

pub returns-in_err-found-clause-refused : goal.returns-in_err-found-clause-refused
returns-in_err-found-clause-refused g c = λ honest.
    let p = err_from_is_err_and c.from_residual-in_err-found.result c.from_residual-in_err-found.ensures.1 in
    let read = c.in_ok-table.ensures.read in
    rw (p.1, p.2)
    (journals_refused c.in_ok-table.table c.geometry.result _ _ (c.in_ok-table.ensures.table honest)
    c.in_ok-table.ensures.long c.geometry.ensures.value read.same c.in_err-found.field-0.0
    (c.in_err-found.ensures.refused (read.honest.1 honest)))

pub returns-clause-volume : goal.returns-clause-volume
returns-clause-volume g c = λ honest.
    let read = c.in_ok-table.ensures.read in
    volume_read c.in_ok-table.table c.geometry.result _ _ (c.in_ok-table.ensures.table honest)
    c.in_ok-table.ensures.long c.geometry.ensures.value read.same (batches_of c.in_ok-found.found.items)
    (c.in_ok-found.ensures.found (read.honest.1 honest))

pub returns-clause-read : goal.returns-clause-read
returns-clause-read g c = read_then c.in_ok-table.ensures.read c.in_ok-found.ensures.read
