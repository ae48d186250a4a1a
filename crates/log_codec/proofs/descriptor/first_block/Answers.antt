use Rattle.std.proofs.Common.{◌≡◌, ℕ, List, [], ◌++◌, length, refl, arith, length-append}
use Rattle.volume_codec.specs.Text.{number_text, zeros}
use Rattle.volume_codec.proofs.Public.{length-number_text, length-zeros}
use Rattle.log_codec.proofs.descriptor.first_block.Goals as goal

pub returns : goal.returns
unfolding zeros
returns c =
    let s : List ℕ = c.args.seal.now in
    let n : List ℕ = number_text 8 c.args.number in
    let k : List ℕ = number_text 4 c.args.count in
    let eight : length s ≡ 8 = c.told-seal in
    let second : length (s ++ n) ≡ 16 = omega (arith, length-append s n, length-number_text 8 c.args.number) in
    let third : length (s ++ n ++ k) ≡ 20 =
    omega (arith, length-append (s ++ n) k, length-number_text 4 c.args.count) in
    let fourth : length (s ++ n ++ k ++ zeros 12) ≡ 32 =
    omega (arith, length-append (s ++ n ++ k) (zeros 12), length-zeros 12) in
    c.put_homes.ensures (s ++ n ++ k ++ zeros 12) (c.put-2.ensures (s ++ n ++ k) (c.put_u32.ensures (s ++ n)
    (c.put_u64.ensures s (c.put.ensures [] c.zero_block-block.ensures refl) eight) second) third) fourth
