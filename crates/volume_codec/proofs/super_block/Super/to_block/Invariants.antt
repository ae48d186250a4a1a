use Rattle.std.proofs.Common.{◌≡◌, ◌+◌, ◌*◌, ◌++◌, length, take}
use Rattle.volume_codec.specs.Layout.{first_file_home}
use Rattle.volume_codec.specs.Super.{super_head, entries_text}
use Rattle.volume_codec.proofs.super_block.Super.to_block.Given as goal

abbrev pub invariant-loop-file : goal.invariant-loop-file
invariant-loop-file g l = record {
  written : l.block ≡ super_head l.self
      ++ entries_text (first_file_home l.self.layout l.self.slots) (take l.file l.self.files);
  len : length l.block ≡ 32 + 48 * l.file;
}
