use Rattle.std.proofs.Common.{◌≡◌, ◌-◌, ◌*◌, ◌++◌, length, take, drop}
use Rattle.std.specs.List.{AllByRecursion}
use Rattle.volume_codec.specs.Super.{IsName}
use Rattle.volume_codec.specs.inside.Reading.{table_files_in}
use Rattle.volume_codec.specs.inside.Tables.{files_asked_for, AreFull}
use Rattle.volume_codec.proofs.super_block.files_at.Given as goal

abbrev pub invariant-loop-i : goal.invariant-loop-i
invariant-loop-i l = record {
  found : AllByRecursion (λ f. IsName f.name) (table_files_in l.count l.entries)
      → files_asked_for (take l.i l.files) ++ table_files_in (l.count - l.i) (drop (48 * l.i) l.entries)
      ≡ table_files_in l.count l.entries;
  full : AreFull (take l.i l.files);
  whole : length l.files ≡ 64;
}
