use Rattle.std.proofs.Common.{◌≡◌, ◌++◌, ◌∷◌, [], rules}
use Rattle.volume_codec.specs.Super.{capacities_in}
use Rattle.volume_codec.proofs.Lengths.{capacity_pushed}
use Rattle.volume_codec.proofs.lengths_block.capacities.Goals as goal

pub loop-file-preserved : goal.loop-file-preserved
loop-file-preserved g c =
    let pushed : c.push.new.self.items ≡ c.loop-file.capacities.items ++ c.capacity.result ∷ [] = search rules in
    capacity_pushed (capacities_in c.args.table.now) c.loop-file.capacities.items _ c.loop-file.file c.capacity.result
    pushed c.loop-file.invariant c.capacity.ensures
