use Rattle.std.proofs.Common.{refl, inr, ap, subst, ◌∙◌, ◌*◌, List, ℕ}
use Rattle.std.specs.Prelude.{is_ok}
use Rattle.device.proofs.Public.{did_as}
use Rattle.volume_codec.specs.Layout.{GeometryValue, lengths_blocks, first_home}
use Rattle.new_volume.specs.Formatting.{DidAll, write_if, super_works}
use Rattle.new_volume.proofs.formatting.write_new.Goals as goal

pub returns-clause-did : goal.returns-clause-did
returns-clause-did g c =
    let disk = g.D.Device in
    let table = c.args.table.now in
    let lengths = ap (λ (v : GeometryValue). write_if (lengths_blocks v.layout) (4096 * first_home v.layout v.slots)
    c.write_lengths_of-lengths.result) c.geometry.ensures.value
    ∙ ap (write_if (lengths_blocks table.layout) (4096 * first_home table.layout table.slots))
    c.write_lengths_of-lengths.ensures in
    let P : List ℕ → Type 0 = λ block.
    DidAll disk c.put_lengths.new.device (super_works block) (is_ok c.finish_new.result) c.finish_new.new.device in
    inr (
      c.put_lengths.new.device,
      did_as disk lengths refl c.in-Ok.ensures,
      subst P c.to_block-block.ensures c.finish_new.ensures,
    )
