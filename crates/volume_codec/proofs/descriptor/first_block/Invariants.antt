use Rattle.std.proofs.Common.{◌≡◌, ◌+◌, ◌*◌, ◌++◌, length, take}
use Rattle.std.specs.List.{flat_map}
use Rattle.volume_codec.specs.Text.{number_text, zeros}
use Rattle.volume_codec.proofs.descriptor.first_block.Given as goal

abbrev pub invariant-loop-home : goal.invariant-loop-home
invariant-loop-home l = record {
  written : l.block
      ≡ number_text 8 l.mark ++ number_text 4 l.count ++ zeros 4
      ++ flat_map (number_text 4) (take l.home-index l.homes);
  len : length l.block ≡ 16 + 4 * l.home-index;
}
