use Rattle.std.proofs.Common.{◌≡◌, ℕ, List, [], ◌++◌, length, refl, arith, length-append}
use Rattle.volume_codec.specs.Text.{number_text}
use Rattle.volume_codec.proofs.Public.{length-number_text}
use Rattle.log_codec.proofs.start.encode_start.Goals as goal

pub returns : goal.returns
returns c =
    let s = c.args.start.now in
    let a : List ℕ = number_text 8 s.number in
    let b : List ℕ = number_text 8 s.epoch in
    let first : length a ≡ 8 = length-number_text 8 s.number in
    let second : length (a ++ b) ≡ 16 = omega (arith, length-append a b, length-number_text 8 s.epoch) in
    let begun = c.put_u64.ensures [] c.zero_block-block.ensures refl in
    c.put_u32.ensures (a ++ b) (c.put_u64-2.ensures a begun first) second
