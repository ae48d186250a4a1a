use Rattle.std.proofs.Common.{List, ℕ, Err, sym, ap, length, subst, ◌∙◌, arith}
use Rattle.std.proofs.lemmas.Result.{err_from_is_err_and}
use Rattle.recovery.specs.Opening.{RefusesOpening}
use Rattle.recovery.proofs.Public.{read_then, kept_then, kept_ok, kept_err, carried_of, volume_of, found_of}
use Rattle.volume_reading.proofs.recovered.Recovered.find.Goals as goal

pub find_lengths-requires-clause-long : goal.find_lengths-requires-clause-long
find_lengths-requires-clause-long g c =
    omega (arith, c.in_ok-table.ensures.long, ap length c.in_ok-table.ensures.read.same)

pub find_lengths-requires-clause-carry : goal.find_lengths-requires-clause-carry
find_lengths-requires-clause-carry g c = carried_of _ c.deref.ensures.value c.in_ok-table.ensures.batches

pub returns-in_err-lengths-clause-refused : goal.returns-in_err-lengths-clause-refused
returns-in_err-lengths-clause-refused g c = λ honest.
    let p = err_from_is_err_and c.from_residual-in_err-lengths.result c.from_residual-in_err-lengths.ensures.1 in
    let read = c.in_ok-table.ensures.read in
    let P : List ℕ → Type 0 = λ bytes. RefusesOpening bytes c.in_err-lengths.field-0.0 in
    rw (p.1, p.2)
    (subst P read.same (c.in_err-lengths.ensures.refused (read.honest.1 honest)
    (volume_of c.in_ok-table.table c.deref.ensures.value (sym read.same) (c.in_ok-table.ensures.volume honest))))

pub returns-in_err-lengths-clause-read : goal.returns-in_err-lengths-clause-read
returns-in_err-lengths-clause-read g c = read_then c.in_ok-table.ensures.read c.in_err-lengths.ensures.read

pub returns-in_err-lengths-clause-kept : goal.returns-in_err-lengths-clause-kept
returns-in_err-lengths-clause-kept g c =
    let p = err_from_is_err_and c.from_residual-in_err-lengths.result c.from_residual-in_err-lengths.ensures.1 in
    kept_then c.in_ok-table.ensures.kept
    (kept_err c.from_residual-in_err-lengths.result (p.1 ∙ ap Err p.2) c.in_err-lengths.ensures.kept)

pub returns-clause-found : goal.returns-clause-found
returns-clause-found g c = λ honest.
    let read = c.in_ok-table.ensures.read in record {
      holds = c.in_ok-table.ensures.volume honest;
      found = found_of c.in_ok-table.table c.deref.ensures.value read.same
          (c.in_ok-lengths.ensures.lengths (read.honest.1 honest));
    }

pub returns-clause-read : goal.returns-clause-read
returns-clause-read g c = read_then c.in_ok-table.ensures.read c.in_ok-lengths.ensures.read

pub returns-clause-kept : goal.returns-clause-kept
returns-clause-kept g c = kept_then c.in_ok-table.ensures.kept (kept_ok _ c.in_ok-lengths.ensures.kept)
