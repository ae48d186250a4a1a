use Rattle.std.proofs.Common.{◌≡◌, ℕ, ◌+◌, List, [], ◌++◌, codes, length, take, drop, refl, ap, ◌∙◌, arith}
use Rattle.std.proofs.Common.{length-append}
use Rattle.std.proofs.Common.{length-drop}
use Rattle.std.proofs.lemmas.List.{length-take-le}
use Rattle.volume_codec.specs.Text.{number_text, zeros}
use Rattle.volume_codec.proofs.Public.{length-number_text}
use Rattle.log_volume.proofs.super_block.as_table.Goals as goal

pub returns : goal.returns
unfolding zeros
returns c =
    let block : List ℕ = c.args.block.now in
    let m : List ℕ = codes "FAMSYNC1" in
    let t : List ℕ = take 4 (drop 8 block) in
    let four : length t ≡ 4 = length-take-le 4 (drop 8 block) (omega (arith, c.told-block, length-drop 8 block)) in
    let one : List ℕ = number_text 4 1 in
    let b : List ℕ = number_text 4 c.args.blocks in
    let first = c.put.ensures [] block refl refl in
    let second = c.put-2.ensures m block first refl
    ∙ ap (λ n. (m ++ t) ++ drop (8 + n) block) four in
    let l12 : length (m ++ t) ≡ 12 = omega (arith, four, length-append m t) in
    let third = c.put_u32.ensures (m ++ t) block second l12 in
    let l16 : length (m ++ t ++ one) ≡ 16 = omega (arith, l12, length-append (m ++ t) one, length-number_text 4 1) in
    let fourth = c.put_u32-2.ensures (m ++ t ++ one) block third l16 in
    let l20 : length (m ++ t ++ one ++ b) ≡ 20 =
    omega (arith, l16, length-append (m ++ t ++ one) b, length-number_text 4 c.args.blocks) in
    c.put-3.ensures (m ++ t ++ one ++ b) block fourth l20
