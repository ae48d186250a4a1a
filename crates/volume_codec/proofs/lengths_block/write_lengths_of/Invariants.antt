use Rattle.std.proofs.Common.{◌≡◌, ◌*◌, length, take}
use Rattle.std.specs.List.{flat_map}
use Rattle.volume_codec.proofs.Lengths.{asked_length_text}
use Rattle.volume_codec.proofs.lengths_block.write_lengths_of.Given as goal

abbrev pub invariant-loop-file : goal.invariant-loop-file
invariant-loop-file l = record {
  written : l.block ≡ flat_map asked_length_text (take l.file-index l.files);
  len : length l.block ≡ 8 * l.file-index;
}
