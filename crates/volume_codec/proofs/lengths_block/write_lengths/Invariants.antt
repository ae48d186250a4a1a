use Rattle.std.proofs.Common.{◌≡◌, ◌*◌, length, take}
use Rattle.std.specs.List.{flat_map}
use Rattle.volume_codec.specs.Text.{number_text}
use Rattle.volume_codec.proofs.lengths_block.write_lengths.Given as goal

abbrev pub invariant-loop-length : goal.invariant-loop-length
invariant-loop-length l = record {
  written : l.block ≡ flat_map (number_text 8) (take l.length-index l.lengths);
  len : length l.block ≡ 8 * l.length-index;
}
