use Rattle.std.proofs.Common.{◌*◌, Ok}
use Rattle.volume_codec.specs.Super.{total_pages}
use Rattle.recovery.specs.Migration.{Copies, AreCopied}
use Rattle.recovery.specs.Volume.{files_of, bytes_of}
use Rattle.recovery.proofs.migration.copy_files.Given as goal

abbrev pub invariant-loop-file : goal.invariant-loop-file
invariant-loop-file g l = record {
  copies : Copies {X = Unit {0}} g.D.Device g.E.Device (4096 * l.first)
      (4096 * total_pages l.initial.old.table.files) l.initial.old l.initial.new (Ok tt) l.old l.new;
  copied : g.D.Device.is_honest l.initial.old.device → g.E.Device.is_honest l.initial.new
      → AreCopied l.first l.initial.old.table.files l.initial.old.lengths
      (bytes_of (files_of l.initial.old.table (g.D.Device.seen l.initial.old.device))) l.file
      (g.E.Device.seen l.initial.new) (g.E.Device.seen l.new);
}
