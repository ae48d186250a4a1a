use Rattle.std.proofs.Common.{take}
use Rattle.std.specs.Io.KnownBytes.{Appends}
use Rattle.inspection.specs.Text.{journal_lines}
use Rattle.inspection.proofs.text.write_journals.Given as goal

abbrev pub invariant-loop-journal : goal.invariant-loop-journal
invariant-loop-journal g l = Appends (g.W.Write.contents l.initial.out) (g.W.Write.contents l.out)
    (journal_lines l.table (take l.journal-index l.journals))
