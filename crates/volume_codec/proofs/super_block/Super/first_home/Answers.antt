use Rattle.std.proofs.Common.{slice_get, option_map, ap, sym, ◌∙◌}
use Rattle.volume_codec.specs.Super.{SuperValue, first_home_of}
use Rattle.volume_codec.proofs.Places.{homes_from-at}
use Rattle.volume_codec.proofs.Rows.{home_at_row}
use Rattle.volume_codec.proofs.super_block.Super.first_home.Goals as goal

pub returns : goal.returns
returns g c =
    let there = home_at_row c.self.inside.files.entries c.args.file _
    (sym c.get_index.ensures.entry ∙ ap (option_map _) c.unwrap.ensures) in
    homes_from-at _ _ c.args.file _ (ap (λ hs. slice_get hs c.args.file) (sym c.self.invariant.homes_are) ∙ there)
    ∙ ap (λ (v : SuperValue). first_home_of v c.args.file) c.self.view_is
