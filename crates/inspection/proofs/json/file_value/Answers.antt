use Rattle.std.proofs.Common.{◌≡◌, slice_index, ◌∙◌, ap}
use Rattle.std.proofs.lemmas.Result.{IfOk-weaker}
use Rattle.serde_json.specs.View.{view}
use Rattle.volume_codec.specs.Super.{capacities_in, pages_of}
use Rattle.inspection.specs.Text.{name_of}
use Rattle.inspection.specs.Json.{file_members, file_data}
use Rattle.inspection.proofs.json.file_value.Goals as goal

pub returns : goal.returns
returns g c =
    let v = c.args.making.table.now in
    let i = c.args.file in
    let n = c.args.bytes in
    let cap = slice_index (capacities_in v) i in
    let name = c.name_of-name in
    let capacity = c.capacity_of-capacity in
    let pages = c.pages-pages in
    let home = c.from-home in
    let members : file_members name.result.now n capacity.result pages.result home.result ≡ file_data v i n =
    ap (λ s. file_members s n capacity.result pages.result home.result) name.ensures
    ∙ ap (λ k. file_members (name_of v i) n k pages.result home.result) capacity.ensures
    ∙ ap (λ p. file_members (name_of v i) n cap p home.result) pages.ensures
    ∙ ap (file_members (name_of v i) n cap (pages_of cap)) (home.ensures ∙ c.first_home.ensures) in
    IfOk-weaker c.file_object.result
    (λ value. view value ≡ file_members name.result.now n capacity.result pages.result home.result) _
    (λ value is. is ∙ members)
    c.file_object.ensures
