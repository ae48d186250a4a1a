use Rattle.std.proofs.Common.{List, ℕ, Err, ap, sym, subst, ◌∙◌, inr, arith}
use Rattle.std.proofs.lemmas.Result.{err_from_is_err_and}
use Rattle.recovery.specs.Opening.{RefusesOpening}
use Rattle.recovery.proofs.Kept.{kept_then, kept_ok, kept_err, unwritten_then, unwritten_of, synced_after}
use Rattle.recovery.proofs.RecoveredLengths.{finds_of_judges, carried_of, volume_of, found_of}
use Rattle.recovery.proofs.opening.judge_all.Goals as goal

pub returns-in_err-table-clause-most : goal.returns-in_err-table-clause-most
returns-in_err-table-clause-most g c = λ honest. finds_of_judges _ _ _ (c.in_err-table.ensures.most honest)

pub find_lengths-requires-clause-carry : goal.find_lengths-requires-clause-carry
find_lengths-requires-clause-carry g c = carried_of _ c.deref.ensures.value c.in_ok-table.ensures.carry

pub returns-in_err-lengths-clause-refused : goal.returns-in_err-lengths-clause-refused
returns-in_err-lengths-clause-refused g c = λ honest.
    let p = err_from_is_err_and c.from_residual-in_err-lengths.result c.from_residual-in_err-lengths.ensures.1 in
    let same = (c.in_ok-table.ensures.unwritten honest).same in
    let P : List ℕ → Type 0 = λ bytes. RefusesOpening bytes c.in_err-lengths.field-0.0 in
    rw (p.1, p.2)
    (subst P same (c.in_err-lengths.ensures.refused (c.in_ok-table.ensures.kept.honest.1 honest)
    (volume_of _ c.deref.ensures.value (sym same) (c.in_ok-table.ensures.volume honest))))

pub returns-in_err-lengths-clause-unwritten : goal.returns-in_err-lengths-clause-unwritten
returns-in_err-lengths-clause-unwritten g c = λ honest.
    unwritten_then (c.in_ok-table.ensures.unwritten honest)
    (unwritten_of c.find_lengths.ensures.read)

pub returns-in_err-lengths-clause-kept : goal.returns-in_err-lengths-clause-kept
returns-in_err-lengths-clause-kept g c =
    let p = err_from_is_err_and c.from_residual-in_err-lengths.result c.from_residual-in_err-lengths.ensures.1 in
    kept_then c.in_ok-table.ensures.kept
    (kept_err c.from_residual-in_err-lengths.result (p.1 ∙ ap Err p.2) c.in_err-lengths.ensures.kept)

pub returns-in_err-lengths-clause-most : goal.returns-in_err-lengths-clause-most
returns-in_err-lengths-clause-most g c = λ honest. inr (
  c.in_ok-table.table,
  (c.in_ok-table.ensures.volume honest).super_block,
  λ small. omega (arith, small, c.in_ok-table.ensures.within, c.find_lengths.ensures.most),
)

pub returns-clause-lengths : goal.returns-clause-lengths
returns-clause-lengths g c = λ honest.
    found_of _ c.deref.ensures.value (c.in_ok-table.ensures.unwritten honest).same
    (c.in_ok-lengths.ensures.lengths (c.in_ok-table.ensures.kept.honest.1 honest))

pub returns-clause-synced : goal.returns-clause-synced
returns-clause-synced g c = λ honest.
    synced_after {disk = g.D.Device} (unwritten_of c.find_lengths.ensures.read)
    (c.in_ok-table.ensures.synced honest)

pub returns-clause-unwritten : goal.returns-clause-unwritten
returns-clause-unwritten g c = λ honest.
    unwritten_then (c.in_ok-table.ensures.unwritten honest)
    (unwritten_of c.find_lengths.ensures.read)

pub returns-clause-kept : goal.returns-clause-kept
returns-clause-kept g c = kept_then c.in_ok-table.ensures.kept (kept_ok _ c.in_ok-lengths.ensures.kept)

pub returns-clause-calls : goal.returns-clause-calls
returns-clause-calls g c = λ small. omega (arith, small, c.in_ok-table.ensures.calls, c.in_ok-lengths.ensures.calls)

pub returns-clause-most : goal.returns-clause-most
returns-clause-most g c = λ honest. inr (
  c.in_ok-table.table,
  (c.in_ok-table.ensures.volume honest).super_block,
  λ small. omega (arith, small, c.in_ok-table.ensures.within, c.find_lengths.ensures.most),
)
