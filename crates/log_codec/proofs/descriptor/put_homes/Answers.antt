use Rattle.std.proofs.Common.{◌≡◌, ℕ, List, ◌+◌, ◌*◌, ◌++◌, length, take, get_or, sym, ap, ◌∙◌, arith}
use Rattle.std.proofs.Common.{append_assoc, length-append}
use Rattle.std.specs.List.{flat_map}
use Rattle.std.proofs.lemmas.List.{length-take-le}
use Rattle.volume_codec.specs.Text.{number_text, padded}
use Rattle.volume_codec.proofs.Public.{length-numbers}
use Rattle.log_codec.proofs.Bodies.{one_home_more}
use Rattle.log_codec.proofs.descriptor.put_homes.Goals as goal

pub loop-i-preserved : goal.loop-i-preserved
loop-i-preserved c = λ text is size.
    let i = c.loop-i.i in
    let homes = c.args.homes.now in
    let front : List ℕ = flat_map (number_text 4) (take i homes) in
    let many : length (take i homes) ≡ i = length-take-le i homes (omega arith) in
    let at : length (text ++ front) ≡ c.args.at + 4 * i =
    omega (arith, length-append text front, length-numbers 4 (take i homes)) in
    c.put_u32.ensures (text ++ front) (c.loop-i.invariant text is size) at
    ∙ ap (padded 4096) (append_assoc text front (number_text 4 (get_or homes i 0))
    ∙ ap (λ (l : List ℕ). text ++ l) (sym (one_home_more homes i c.loop-i-test.true)))
