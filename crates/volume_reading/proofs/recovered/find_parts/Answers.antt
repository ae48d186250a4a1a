use Rattle.std.proofs.Common.{Err, ap, subst, ◌∙◌}
use Rattle.std.proofs.lemmas.Result.{err_from_is_err_and}
use Rattle.volume_codec.specs.Layout.{GeometryValue}
use Rattle.recovery.specs.Reading.{AreBatches, batches_of}
use Rattle.recovery.proofs.Public.{read_then, kept_then, kept_ok, kept_err, volume_read, journals_refused}
use Rattle.volume_reading.proofs.recovered.find_parts.Goals as goal

pub returns-in_err-open-clause-refused : goal.returns-in_err-open-clause-refused
returns-in_err-open-clause-refused g c = λ honest.
    let p = err_from_is_err_and c.from_residual-in_err-open.result c.from_residual-in_err-open.ensures.1 in
    let read = c.in_ok-table.ensures.read in
    rw (p.1, p.2)
    (journals_refused c.in_ok-table.table c.geometry.result _ _ (c.in_ok-table.ensures.table honest)
    c.in_ok-table.ensures.long c.geometry.ensures.value read.same c.in_err-open.field-0.0
    (c.in_err-open.ensures.refused (read.honest.1 honest)))

pub returns-in_err-open-clause-kept : goal.returns-in_err-open-clause-kept
returns-in_err-open-clause-kept g c =
    let p = err_from_is_err_and c.from_residual-in_err-open.result c.from_residual-in_err-open.ensures.1 in
    kept_then c.in_ok-table.ensures.kept
    (kept_err c.from_residual-in_err-open.result (p.1 ∙ ap Err p.2) c.in_err-open.ensures.kept)

pub returns-in_err-open-clause-read : goal.returns-in_err-open-clause-read
returns-in_err-open-clause-read g c = read_then c.in_ok-table.ensures.read c.in_err-open.ensures.read

pub returns-clause-volume : goal.returns-clause-volume
returns-clause-volume g c = λ honest.
    let read = c.in_ok-table.ensures.read in
    volume_read c.in_ok-table.table c.geometry.result _ _ (c.in_ok-table.ensures.table honest)
    c.in_ok-table.ensures.long c.geometry.ensures.value read.same (batches_of c.in_ok-open.open.items)
    (c.in_ok-open.ensures.found (read.honest.1 honest))

pub returns-clause-batches : goal.returns-clause-batches
returns-clause-batches g c =
    let P : GeometryValue → Type 0 = λ h. AreBatches h (batches_of c.in_ok-open.open.items) in
    subst P c.geometry.ensures.value c.in_ok-open.ensures.carry

pub returns-clause-read : goal.returns-clause-read
returns-clause-read g c = read_then c.in_ok-table.ensures.read c.in_ok-open.ensures.read

pub returns-clause-kept : goal.returns-clause-kept
returns-clause-kept g c = kept_then c.in_ok-table.ensures.kept (kept_ok _ c.in_ok-open.ensures.kept)
