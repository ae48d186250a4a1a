use Rattle.std.specs.Io.KnownBytes.{Appends}
use Rattle.crashes_command.specs.Text.{marks_text}
use Rattle.crashes_command.proofs.text.text_marks.Given as goal

abbrev pub invariant-loop-mark : goal.invariant-loop-mark
invariant-loop-mark g l =
    Appends (g.W.Write.contents l.initial.out) (g.W.Write.contents l.out) (marks_text l.row.found.items l.mark)
