use Rattle.std.proofs.Common.{◌≡◌, List, ℕ, ◌-◌, ◌*◌, ◌<◌, length, take, ap, subst, ◌∙◌, arith, []}
use Rattle.std.specs.Prelude.{bit_xor}
use Rattle.xxh64.specs.Xxh64.{HasMessage}
use Rattle.log_codec.specs.Commit.{LogDescriptor, log_body}
use Rattle.log_codec.proofs.Digests.{length-open_seal, first_part, next_part, whole_body}
use Rattle.log_codec.proofs.seal.CommitDigest.new.Goals as goal

pub loop-index-init : goal.loop-index-init
loop-index-init c =
    let d : LogDescriptor = record { number = c.args.number; homes = c.args.homes.now } in
    let seed = bit_xor c.args.key c.args.epoch in
    let eight : length c.open_seal.result ≡ 8 = ap length c.open_seal.ensures ∙ length-open_seal in
    let P : List ℕ → Type 0 = λ m. HasMessage c.update.new.self seed m in
    subst P (first_part c.open_seal.result (log_body d) c.encode_descriptor-first.result eight
    c.encode_descriptor-first.ensures) (c.update.ensures seed [] c.new-hasher.ensures)

pub loop-index-preserved : goal.loop-index-preserved
loop-index-preserved c =
    let d : LogDescriptor = record { number = c.args.number; homes = c.args.homes.now } in
    let seed = bit_xor c.args.key c.args.epoch in
    let i = c.loop-index.index in
    let seal = c.open_seal-in-loop-index.result in
    let eight : length seal ≡ 8 = ap length c.open_seal-in-loop-index.ensures ∙ length-open_seal in
    let P : List ℕ → Type 0 = λ m. HasMessage c.update-in-loop-index.new.self seed m in
    let further : 0 < i = omega (arith, c.loop-index.auto.index) in
    subst P (next_part seal (log_body d) c.encode_descriptor-block.result i eight further
    c.encode_descriptor-block.ensures)
    (c.update-in-loop-index.ensures seed (take (4096 * i - 8) (log_body d)) c.loop-index.invariant)

pub returns : goal.returns
returns c =
    whole_body c.loop-index.hasher (bit_xor c.args.key c.args.epoch) c.loop-index.index
    (record { number = c.args.number; homes = c.args.homes.now }) c.requires
    (omega (arith, c.loop-index-test.false, c.descriptor_blocks_of-index-end.ensures.value)) c.loop-index.invariant
