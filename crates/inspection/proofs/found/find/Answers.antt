use Rattle.std.proofs.Common.{List, ℕ, ap, length, sym, subst, arith}
use Rattle.std.proofs.lemmas.Result.{err_from_is_err_and}
use Rattle.volume_codec.specs.Layout.{GeometryValue}
use Rattle.recovery.specs.Opening.{RefusesOpening}
use Rattle.recovery.specs.Reading.{batches_of}
use Rattle.recovery.proofs.Public.{read_then, journals_refused, carried_of, volume_of, found_of}
use Rattle.inspection.specs.Found.{AreJournals}
use Rattle.inspection.proofs.Looked.{found_by_reading, calls_as}
use Rattle.inspection.proofs.found.find.Goals as goal

pub find_lengths-requires-clause-long : goal.find_lengths-requires-clause-long
find_lengths-requires-clause-long g c =
    omega (arith, c.in_ok-table.ensures.long, ap length c.in_ok-table.ensures.read.same)

pub find_lengths-requires-clause-carry : goal.find_lengths-requires-clause-carry
find_lengths-requires-clause-carry g c = carried_of _ c.deref.ensures.value c.in_ok-table.ensures.batches

pub returns-in_err-lengths-clause-refused : goal.returns-in_err-lengths-clause-refused
returns-in_err-lengths-clause-refused g c = λ honest.
    let p = err_from_is_err_and c.from_residual-in_err-lengths.result c.from_residual-in_err-lengths.ensures.1 in
    let read = c.in_ok-table.ensures.read in
    let P : List ℕ → Type 0 = λ bytes. RefusesOpening bytes c.in_err-lengths.field-0.0 in
    rw (p.1, p.2)
    (subst P read.same (c.in_err-lengths.ensures.refused (read.honest.1 honest)
    (volume_of c.in_ok-table.table c.deref.ensures.value (sym read.same) (c.in_ok-table.ensures.volume honest))))

pub returns-in_err-lengths-clause-read : goal.returns-in_err-lengths-clause-read
returns-in_err-lengths-clause-read g c = read_then c.in_ok-table.ensures.read c.in_err-lengths.ensures.read

pub read_journals-requires : goal.read_journals-requires
read_journals-requires g c =
    let blocks = ap (λ (h : GeometryValue). h.blocks) c.geometry.ensures.value in
    let read = read_then c.in_ok-table.ensures.read c.in_ok-lengths.ensures.read in
    omega (arith, blocks, c.in_ok-table.ensures.long, ap length read.same)

pub returns-in_err-journals-clause-refused : goal.returns-in_err-journals-clause-refused
returns-in_err-journals-clause-refused g c = λ honest.
    let p = err_from_is_err_and c.from_residual-in_err-journals.result c.from_residual-in_err-journals.ensures.1 in
    let read = read_then c.in_ok-table.ensures.read c.in_ok-lengths.ensures.read in
    rw (p.1, p.2)
    (journals_refused c.in_ok-table.table c.geometry.result _ _ (c.in_ok-table.ensures.volume honest).super_block
    c.in_ok-table.ensures.long c.geometry.ensures.value read.same c.in_err-journals.field-0.0
    (c.in_err-journals.ensures.refused (read.honest.1 honest)))

pub returns-in_err-journals-clause-read : goal.returns-in_err-journals-clause-read
returns-in_err-journals-clause-read g c =
    read_then (read_then c.in_ok-table.ensures.read c.in_ok-lengths.ensures.read) c.in_err-journals.ensures.read

pub returns-clause-found : goal.returns-clause-found
returns-clause-found g c = λ honest.
    let first = c.in_ok-table.ensures.read in
    let both = read_then first c.in_ok-lengths.ensures.read in
    let P : List ℕ → Type 0 = λ bytes. AreJournals c.geometry.result bytes c.in_ok-journals.journals.items in
    let Q : GeometryValue → Type 0 =
    λ h. AreJournals h (g.D.Device.seen c.args.device.now) c.in_ok-journals.journals.items in
    let say = c.in_ok-journals.ensures.say (both.honest.1 honest) in
    found_by_reading (g.D.Device.seen c.args.device.now) _ (batches_of c.in_ok-table.open.items)
    (c.in_ok-table.ensures.volume honest) (subst Q c.geometry.ensures.value (subst P both.same say))
    (found_of c.in_ok-table.table c.deref.ensures.value first.same
    (c.in_ok-lengths.ensures.lengths (first.honest.1 honest)))
    (calls_as c.in_ok-table.table c.deref-2.ensures.value c.opening_calls-calls.ensures)

pub returns-clause-count : goal.returns-clause-count
returns-clause-count g c = c.in_ok-lengths.ensures.are.count

pub returns-clause-read : goal.returns-clause-read
returns-clause-read g c =
    read_then (read_then c.in_ok-table.ensures.read c.in_ok-lengths.ensures.read) c.in_ok-journals.ensures.read
