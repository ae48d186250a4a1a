use Rattle.std.proofs.Common.{◌≡◌, ◌+◌, ◌*◌, ◌++◌, ◌∷◌, [], drop, ap, ◌∙◌, arith, rules}
use Rattle.volume_codec.specs.Text.{number_in}
use Rattle.volume_codec.proofs.ReadingLemmas.{number_found, numbers_found}
use Rattle.volume_codec.proofs.lengths_block.numbers_at.Goals as goal

pub loop-i-preserved : goal.loop-i-preserved
loop-i-preserved g c =
    let pushed : c.push.new.self.items ≡ c.loop-i.numbers.items ++ c.u64_at.result ∷ [] = search rules in
    let place : 8 * c.loop-i.i ≡ 0 + 8 * c.loop-i.i = omega arith in
    number_found c.loop-i.numbers.items _ c.u64_at.result 8 c.args.count c.loop-i.i 0 c.args.block.now (omega arith)
    c.loop-i.invariant (c.u64_at.ensures ∙ ap (λ k. number_in 8 (drop k c.args.block.now)) place) pushed

pub returns : goal.returns
returns g c = numbers_found c.loop-i.numbers.items 8 c.args.count c.loop-i.i 0 c.args.block.now
    (omega arith) c.loop-i.invariant
