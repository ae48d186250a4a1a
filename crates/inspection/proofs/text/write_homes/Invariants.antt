use Rattle.std.proofs.Common.{take}
use Rattle.std.specs.Io.KnownBytes.{Appends}
use Rattle.inspection.specs.Text.{homes_text}
use Rattle.inspection.proofs.text.write_homes.Given as goal

abbrev pub invariant-loop-home : goal.invariant-loop-home
invariant-loop-home g l = Appends (g.W.Write.contents l.initial.out) (g.W.Write.contents l.out)
    (homes_text l.table (take l.home-index l.homes))
