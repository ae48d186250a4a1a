use Rattle.std.proofs.Common.{◌≡◌, List, ℕ, slice_index, sym, ◌∙◌, ap, subst}
use Rattle.std.specs.Io.KnownBytes.{Appends}
use Rattle.volume_codec.specs.Super.{capacities_in, pages_of}
use Rattle.inspection.specs.Text.{name_of, file_text, file_line}
use Rattle.std.proofs.lemmas.Result.{on_ok_weaker}
use Rattle.inspection.proofs.text.write_file.Goals as goal

pub write_file_text-requires : goal.write_file_text-requires
write_file_text-requires g c = c.pages-pages.ensures ∙ ap pages_of (sym c.capacity_of-capacity.ensures)

pub returns : goal.returns
returns g c =
    let v = c.args.table.now in
    let i = c.args.file in
    let n = c.args.bytes in
    let name = c.name_of-name in
    let capacity = c.capacity_of-capacity in
    let home = c.from-home in
    let text : file_text name.result.now n capacity.result home.result ≡ file_line v i n =
    ap (λ s. file_text s n capacity.result home.result) name.ensures
    ∙ ap (λ k. file_text (name_of v i) n k home.result) capacity.ensures
    ∙ ap (file_text (name_of v i) n (slice_index (capacities_in v) i)) (home.ensures ∙ c.first_home.ensures) in
    let P : List ℕ → Type 0 =
    λ text. Appends (g.W.Write.contents c.args.out.now) (g.W.Write.contents c.write_file_text.new.out) text in
    on_ok_weaker c.write_file_text.result (subst P text) c.write_file_text.ensures
