use Rattle.std.proofs.Common.{◌≡◌, length, take}
use Rattle.volume_codec.specs.Files.{asked_by}
use Rattle.machine_log.specs.inside.Opened.{asked_whole}
use Rattle.machine_log.proofs.opening.specs_of.Given as goal

abbrev pub invariant-loop-file : goal.invariant-loop-file
invariant-loop-file g l = record {
  written : asked_by (take l.file l.specs) ≡ take l.file (asked_whole l.table.files);
  whole : length l.specs ≡ 64;
}
