use Rattle.std.proofs.Common.{ℕ, ◌-◌, ◌*◌, List, ◌++◌, length, drop, ap, sym, ◌∙◌, arith}
use Rattle.std.specs.List.{flat_map}
use Rattle.std.proofs.lemmas.List.{length-take}
use Rattle.volume_codec.specs.Layout.{block_at}
use Rattle.volume_codec.specs.Text.{number_text, zeros, padded}
use Rattle.volume_codec.specs.Descriptor.{descriptor_text}
use Rattle.volume_codec.proofs.Described.{block-first, block-further}
use Rattle.volume_codec.proofs.descriptor.write_descriptor.Goals as goal

pub first_block-requires : goal.first_block-requires
first_block-requires c =
    omega (arith, ap length c.part_of.ensures, length-take 1020 (drop 0 c.args.homes.now))

pub returns-then-index-eq0 : goal.returns-then-index-eq0
returns-then-index-eq0 c =
    let homes = c.args.homes.now in
    let slots = c.args.geometry.now.slots in
    c.first_block.ensures
    ∙ ap (λ (l : List ℕ). padded 4096
    (number_text 8 c.args.mark ++ number_text 4 (length homes) ++ zeros 4 ++ flat_map (number_text 4) l))
    c.part_of.ensures
    ∙ block-first slots c.args.mark homes c.requires.described.homes.few
    ∙ ap (block_at (descriptor_text slots (record { mark = c.args.mark; homes = homes }))) (sym c.if-index-eq0.true)

pub further_block-requires : goal.further_block-requires
further_block-requires c =
    omega (arith, ap length c.part_of-2.ensures, length-take 1024 (drop (1024 * c.args.index - 4) c.args.homes.now))

pub returns : goal.returns
returns c =
    let homes = c.args.homes.now in
    c.further_block.ensures
    ∙ ap (λ (l : List ℕ). padded 4096 (flat_map (number_text 4) l)) c.part_of-2.ensures
    ∙ block-further c.args.geometry.now.slots c.args.mark homes c.requires.described.homes.few c.args.index
    (omega (arith, c.if-index-eq0.false)) c.requires.within
