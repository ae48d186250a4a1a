use Rattle.std.specs.Io.KnownBytes.{Appends}
use Rattle.inspection.specs.Text.{file_lines}
use Rattle.inspection.proofs.text.write_files.Given as goal

abbrev pub invariant-loop-file : goal.invariant-loop-file
invariant-loop-file g l =
    Appends (g.W.Write.contents l.initial.out) (g.W.Write.contents l.out) (file_lines l.table l.lengths l.file)
