use Rattle.std.proofs.Common.{◌≡◌, ◌+◌, ◌-◌, ◌*◌, ◌%◌, ◌≤◌, drop, length, ap, ◌∙◌, arith, length-drop}
use Rattle.std.proofs.lemmas.List.{take_all}
use Rattle.log_codec.specs.Log.{ring_block}
use Rattle.log_commits.proofs.Works.{works_one}
use Rattle.log_commits.proofs.ring.write_ring.Goals as goal

pub returns-then-bytes-ahead : goal.returns-then-bytes-ahead
returns-then-bytes-ahead g c =
    let ring = c.args.log.now.ring in
    let p = c.args.position in
    let from = c.args.from in
    let bytes = c.args.bytes.now in
    let zero : p + 0 ≡ p = omega arith in
    let block : c.from.result ≡ ring_block ring p =
    c.from.ensures ∙ c.block_behind.ensures.value ∙ ap (ring_block ring) zero in
    let ahead = c.blocks_ahead.ensures.value in
    let short : length bytes ≤ 4096 * (ring - p % ring) = omega (arith, c.if-bytes-ahead.true, ahead) in
    works_one g.D.Device ring p from bytes (4096 * c.from.result + from) _ (ap (λ b. 4096 * b + from) block) _
    (take_all (length bytes - from) (drop from bytes) (omega (arith, length-drop from bytes))) short
    c.write_at.ensures
