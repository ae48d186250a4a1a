use Rattle.std.proofs.Common.{◌≡◌, ◌+◌, take}
use Rattle.volume_codec.specs.Super.{total_pages}
use Rattle.volume_codec.specs.inside.Tables.{rows_of, homes_of, homes_from, files_asked_for}
use Rattle.volume_codec.proofs.super_block.table.Given as goal

abbrev pub invariant-loop-file : goal.invariant-loop-file
invariant-loop-file g l = record {
  rows : rows_of l.table.entries ≡ files_asked_for (take l.file-index l.files);
  homes : homes_of l.table.entries ≡ homes_from l.first_home (files_asked_for (take l.file-index l.files));
  next : l.home ≡ l.first_home + total_pages (files_asked_for (take l.file-index l.files));
}
