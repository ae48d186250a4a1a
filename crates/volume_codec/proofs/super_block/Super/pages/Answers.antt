use Rattle.std.proofs.Common.{slice_get, option_map, ap, subst, sym, ◌∙◌, arith}
use Rattle.volume_codec.specs.Super.{SuperValue, Fits, pages_of, capacities_in}
use Rattle.volume_codec.proofs.Rows.{capacity_at_row, index_by_get}
use Rattle.volume_codec.proofs.Places.{pages_of-le}
use Rattle.volume_codec.proofs.super_block.Super.pages.Goals as goal

pub returns : goal.returns
returns g c =
    let e = capacity_at_row c.self.inside.files.entries c.args.file _
    (sym c.get_index.ensures.entry ∙ ap (option_map _) c.unwrap.ensures) in
    let i = index_by_get _ c.args.file _ (ap (λ v. slice_get (capacities_in v) c.args.file) (sym c.self.view_is) ∙ e) in
    c.pages_of.ensures.value ∙ ap pages_of (sym i)

pub overflow_cast-result : goal.overflow_cast-result
overflow_cast-result g c =
    let P : SuperValue → Type 0 = λ v. Fits v in
    let fits = subst P c.self.view_is c.self.invariant.fits in
    omega (arith, returns g c, pages_of-le c.args.self.now c.args.file c.requires, fits.few_blocks)
