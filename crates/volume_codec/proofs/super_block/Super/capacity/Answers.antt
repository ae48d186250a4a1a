use Rattle.std.proofs.Common.{slice_get, option_map, ap, sym, ◌∙◌}
use Rattle.volume_codec.specs.Super.{capacities_in}
use Rattle.volume_codec.proofs.Rows.{capacity_at_row}
use Rattle.volume_codec.proofs.super_block.Super.capacity.Goals as goal

pub returns : goal.returns
returns g c =
    ap (λ v. slice_get (capacities_in v) c.args.file) (sym c.self.view_is)
    ∙ capacity_at_row c.self.inside.files.entries c.args.file _
    (sym c.get_index.ensures.entry ∙ ap (option_map _) c.unwrap.ensures)
