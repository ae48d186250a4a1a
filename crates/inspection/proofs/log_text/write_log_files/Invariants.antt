use Rattle.std.specs.Io.KnownBytes.{Appends}
use Rattle.inspection.specs.LogText.{log_file_lines}
use Rattle.inspection.proofs.log_text.write_log_files.Given as goal

abbrev pub invariant-loop-file : goal.invariant-loop-file
invariant-loop-file g l =
    Appends (g.W.Write.contents l.initial.out) (g.W.Write.contents l.out) (log_file_lines l.table l.lengths l.file)
