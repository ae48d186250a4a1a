use Rattle.std.proofs.Common.{◌≡◌, length, take}
use Rattle.volume_codec.specs.Files.{asked_by, asked_by_pairs}
use Rattle.volume_codec.proofs.rules.specs_of.Given as goal

abbrev pub invariant-loop-i : goal.invariant-loop-i
invariant-loop-i l = record {
  written : asked_by (take l.i l.specs) ≡ asked_by_pairs (take l.i l.files);
  whole : length l.specs ≡ 64;
}
