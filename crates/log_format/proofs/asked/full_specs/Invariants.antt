use Rattle.std.proofs.Common.{◌≡◌, length, take}
use Rattle.volume_codec.specs.Files.{asked_by}
use Rattle.log_format.specs.inside.Full.{full_files}
use Rattle.log_format.proofs.asked.full_specs.Given as goal

abbrev pub invariant-loop-i : goal.invariant-loop-i
invariant-loop-i l = record {
  written : asked_by (take l.i l.full) ≡ full_files (asked_by (take l.i l.files));
  whole : length l.full ≡ 64;
}
