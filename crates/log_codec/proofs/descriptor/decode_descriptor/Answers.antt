use Rattle.std.proofs.Common.{◌≡◌, ℕ, ◌+◌, ◌-◌, ◌*◌, ◌≤◌, List, length, take, drop, sym, ap, subst, ◌∙◌, arith}
use Rattle.std.proofs.lemmas.List.{length-take-le, length-drop, take_all}
use Rattle.volume_codec.specs.Text.{zeros}
use Rattle.volume_codec.proofs.ReadingLemmas.{length-numbers_in}
use Rattle.log_codec.specs.Log.{IsCommitSize, first_log_home, log_descriptor_blocks}
use Rattle.log_codec.proofs.Bodies.{body_by_fields, rises_as}
use Rattle.log_codec.proofs.descriptor.decode_descriptor.Goals as goal

pub returns-clause-ok : goal.returns-clause-ok
returns-clause-ok g c =
    let bytes = c.args.bytes.now in
    let count = c.in_ok-count.count in
    let homes = c.in_ok-homes.homes.items in
    let said = c.in_ok-count.ensures.ok in
    let size : length bytes ≡ 4096 * log_descriptor_blocks count =
    omega (arith, c.if-bytes-descriptor_blocks_of.false, c.descriptor_blocks_of.ensures.value) in
    let some : 32 ≤ length bytes = omega (arith, said.0) in
    let part : length (take 12 (drop 20 bytes)) ≡ 12 =
    length-take-le 12 (drop 20 bytes) (omega (arith, length-drop 20 bytes)) in
    let reserved : take 12 (drop 20 bytes) ≡ zeros 12 =
    c.are_zeros.ensures.0 c.if-not-are_zeros.false ∙ ap zeros part in
    let behind = length-drop (32 + 4 * count) bytes in
    let tail : take (length bytes - (32 + 4 * count)) (drop (32 + 4 * count) bytes) ≡ drop (32 + 4 * count) bytes =
    take_all (length bytes - (32 + 4 * count)) (drop (32 + 4 * count) bytes) (omega arith) in
    let padding : drop (32 + 4 * count) bytes ≡ zeros (length bytes - (32 + 4 * count)) =
    sym tail ∙ c.are_zeros-2.ensures.0 c.if-not-are_zeros-2.false ∙ ap (λ (l : List ℕ). zeros (length l)) tail
    ∙ ap zeros behind in
    let listed = c.in_ok-homes.ensures in
    let many : length homes ≡ count = ap length listed ∙ length-numbers_in 4 count (drop 32 bytes) in
    let rising = rises_as c.first_home-first.result (first_log_home c.args.log.now.ring) c.block_count.result
    c.args.log.now.blocks c.deref.result.now homes c.first_home-first.ensures.value c.block_count.ensures.value
    c.deref.ensures.value (c.rise_within.ensures.0 c.if-not-rise_within.false) in
    let S : ℕ → Type 0 = λ n. IsCommitSize c.args.log.now.ring n in
    record {
      logged = record {
        number = said.1;
        size = subst S (sym many) said.4;
        rising = rising;
      };
      spelled = body_by_fields bytes homes c.args.number count (λ i. (c.type_inv.bytes i).fits) size said.2 said.3
          reserved listed padding;
    }
