use Rattle.std.proofs.Common.{◌≡◌, ℕ, List, get_or, length, refl, ap, ◌∙◌, arith}
use Rattle.std.proofs.lemmas.Bool.{lt-ltb}
use Rattle.std.specs.Prelude.{nat_lt, true}
use Rattle.volume_codec.specs.Super.{SuperValue, capacities_in, pages_of}
use Rattle.pager.proofs.Public.{length_fits}
use Rattle.famsync_core.specs.Held.{file_lengths, table_in}
use Rattle.famsync_core.proofs.Cases.{on_true}
use Rattle.famsync_core.proofs.told.tell_file.Goals as goal

pub returns : goal.returns
returns c =
    let v = c.args.volume.now in
    let file = c.args.file in
    let table = c.table-table.ensures in
    let files = c.file_count.ensures.value ∙ ap (λ (t : SuperValue). length t.files) table in
    let there : nat_lt file (length (table_in v).files) ≡ true =
    lt-ltb file (length (table_in v).files) (omega (arith, files)) in
    let size = ap (λ (l : List ℕ). get_or l file 0) c.lengths.ensures.value in
    let most = c.from.ensures ∙ c.pages.ensures
    ∙ ap (λ (t : SuperValue). pages_of (get_or (capacities_in t) file 0)) table in
    let fits = length_fits (table_in v) (file_lengths v) c.lengths.ensures.each file in
    on_true (nat_lt file (length (table_in v).files)) _ _ there (
      refl,
      size,
      most,
      omega (arith, fits, size, most),
    )
