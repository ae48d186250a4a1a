use Rattle.std.proofs.Common.{ℕ, ◌-◌, ◌*◌, List, ◌++◌, length, drop, ap, sym, ◌∙◌, arith}
use Rattle.std.specs.List.{flat_map}
use Rattle.std.proofs.lemmas.List.{length-take}
use Rattle.volume_codec.specs.Layout.{block_at}
use Rattle.volume_codec.specs.Text.{number_text, zeros, padded}
use Rattle.log_codec.specs.Commit.{log_body}
use Rattle.log_codec.proofs.Bodies.{first-of-blocks, further-of-blocks}
use Rattle.log_codec.proofs.descriptor.encode_descriptor.Goals as goal

pub first_block-requires : goal.first_block-requires
first_block-requires c = omega (arith, ap length c.part_of.ensures, length-take 1016 (drop 0 c.args.homes.now))

pub returns-then-index-eq0 : goal.returns-then-index-eq0
returns-then-index-eq0 c =
    let homes = c.args.homes.now in
    let seal = c.args.seal.now in
    c.first_block.ensures
    ∙ ap (λ (l : List ℕ). padded 4096 (seal ++ number_text 8 c.args.number ++ number_text 4 (length homes)
    ++ zeros 12 ++ flat_map (number_text 4) l)) c.part_of.ensures
    ∙ first-of-blocks seal homes c.args.number c.told-seal c.requires.few
    ∙ ap (block_at (seal ++ log_body (record { number = c.args.number; homes = homes }))) (sym c.if-index-eq0.true)

pub further_block-requires : goal.further_block-requires
further_block-requires c =
    omega (arith, ap length c.part_of-2.ensures, length-take 1024 (drop (1024 * c.args.index - 8) c.args.homes.now))

pub returns : goal.returns
returns c =
    let homes = c.args.homes.now in
    c.further_block.ensures
    ∙ ap (λ (l : List ℕ). padded 4096 (flat_map (number_text 4) l)) c.part_of-2.ensures
    ∙ further-of-blocks c.args.seal.now homes c.args.number c.told-seal c.requires.few c.args.index
    (omega (arith, c.if-index-eq0.false)) c.requires.within
