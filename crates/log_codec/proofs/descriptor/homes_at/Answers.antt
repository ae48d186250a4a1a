use Rattle.std.proofs.Common.{◌≡◌, ◌++◌, ◌∷◌, [], arith, rules}
use Rattle.volume_codec.proofs.ReadingLemmas.{number_found, numbers_found}
use Rattle.log_codec.proofs.descriptor.homes_at.Goals as goal

pub loop-i-preserved : goal.loop-i-preserved
loop-i-preserved g c =
    let pushed : c.push.new.self.items ≡ c.loop-i.homes.items ++ c.u32_at.result ∷ [] = search rules in
    number_found c.loop-i.homes.items _ c.u32_at.result 4 c.args.count c.loop-i.i 32 c.args.bytes.now
    (omega arith) c.loop-i.invariant c.u32_at.ensures pushed

pub returns : goal.returns
returns g c = numbers_found c.loop-i.homes.items 4 c.args.count c.loop-i.i 32 c.args.bytes.now
    (omega arith) c.loop-i.invariant
