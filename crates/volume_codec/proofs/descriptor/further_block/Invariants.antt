use Rattle.std.proofs.Common.{◌≡◌, ◌*◌, length, take}
use Rattle.std.specs.List.{flat_map}
use Rattle.volume_codec.specs.Text.{number_text}
use Rattle.volume_codec.proofs.descriptor.further_block.Given as goal

abbrev pub invariant-loop-home : goal.invariant-loop-home
invariant-loop-home l = record {
  written : l.block ≡ flat_map (number_text 4) (take l.home-index l.homes);
  len : length l.block ≡ 4 * l.home-index;
}
