use Rattle.std.proofs.Common.{◌≡◌, ℕ, List, ◌+◌, ◌-◌, ◌*◌, ◌++◌, take, drop, refl, ap, ◌∙◌, arith}
use Rattle.std.proofs.lemmas.List.{take_all}
use Rattle.log_codec.specs.Commit.{LogDescriptor, log_body}
use Rattle.log_commits.proofs.Filling.{length-head_by, one_block_more}
use Rattle.log_commits.proofs.image.put_descriptor.Goals as goal

pub loop-index-preserved : goal.loop-index-preserved
loop-index-preserved c =
    let d : LogDescriptor = record { number = c.args.number; homes = c.args.homes.now } in
    let text : List ℕ = c.args.seal.now ++ log_body d in
    let i = c.loop-index.index in
    let size = length-head_by c.args.seal.now d c.told-seal c.requires.few in
    let lt = c.loop-index-test.true in
    let blocks = c.requires.blocks in
    one_block_more text c.args.room.now c.loop-index.room c.copy_from_slice.new.self i (4096 * i)
    (4096 * i + 4096 - 4096 * i) refl (omega arith) (omega (arith, size, blocks, lt))
    (omega (arith, size, blocks, c.requires.room)) c.loop-index.invariant
    (c.copy_from_slice.ensures.after ∙ c.encode_descriptor-block.ensures)

pub returns : goal.returns
returns c =
    let d : LogDescriptor = record { number = c.args.number; homes = c.args.homes.now } in
    let text : List ℕ = c.args.seal.now ++ log_body d in
    let room = c.args.room.now in
    let blocks = c.args.blocks in
    let end : c.loop-index.index ≡ blocks =
    omega (arith, c.loop-index-test.false, c.loop-index.auto.index-end) in
    let size = length-head_by c.args.seal.now d c.told-seal c.requires.few in
    c.loop-index.invariant ∙ ap (λ i. take (4096 * i) text ++ drop (4096 * i) room) end
    ∙ ap (λ (l : List ℕ). l ++ drop (4096 * blocks) room)
    (take_all (4096 * blocks) text (omega (arith, size, c.requires.blocks)))
