use Rattle.std.proofs.Common.{List, subst, sym}
use Rattle.std.proofs.lemmas.Result.{err_from_is_err_and}
use Rattle.volume_codec.specs.Files.{TableFile, asked_by}
use Rattle.volume_codec.specs.Super.{IsAsked}
use Rattle.volume_codec.proofs.TableLemmas.{table_asked, asked_fits, names_fit}
use Rattle.volume_codec.proofs.super_block.Super.new.Goals as goal

pub returns-in_err-blocks-clause-refused : goal.returns-in_err-blocks-clause-refused
returns-in_err-blocks-clause-refused g c =
    let p = err_from_is_err_and c.from_residual.result c.from_residual.ensures.1 in
    let e = c.in_err-blocks.ensures.err in
    rw (p.1, p.2, e.0) (λ v asked. let f = asked_fits _ _ _ _ v c.in-Some.ensures.some asked in e.1 f.0 f.1)

pub table-requires-clause-distinct : goal.table-requires-clause-distinct
table-requires-clause-distinct g c = names_fit _ _ _ c.in_ok-blocks.ensures.fits

pub returns-in-Ok-clause-ok : goal.returns-in-Ok-clause-ok
returns-in-Ok-clause-ok g c =
    let P : List TableFile → Type 0 = λ fs. IsAsked c.args.layout (asked_by c.args.files.now) c.args.slots
    (record { layout = c.in-Some.layout; files = fs; slots = c.args.slots }) in
    subst P (sym c.in-Ok.ensures.rows)
    (table_asked _ _ _ _ c.in-Some.ensures.some c.in_ok-blocks.ensures.lengths c.in_ok-blocks.ensures.fits)

pub returns-in-Err-clause-refused : goal.returns-in-Err-clause-refused
returns-in-Err-clause-refused g c =
    (_, table_asked _ _ _ _ c.in-Some.ensures.some c.in_ok-blocks.ensures.lengths c.in_ok-blocks.ensures.fits)
