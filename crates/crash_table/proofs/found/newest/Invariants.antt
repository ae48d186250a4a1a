use Rattle.std.proofs.Common.{◌-◌, List, length, map}
use Rattle.volume_codec.specs.Files.{File}
use Rattle.machine.specs.declared.act.Shape.{Shape}
use Rattle.machine.specs.declared.act.Step.{Step}
use Rattle.crash_table.specs.Marks.{NoneFrom}
use Rattle.crash_table.specs.inside.Kept.{AreKept}
use Rattle.crash_table.proofs.found.newest.Given as goal

abbrev pub invariant-loop-before : goal.invariant-loop-before
invariant-loop-before g l = (files : List File) (shape : Shape) (steps : List Step) → AreKept files shape steps l.first
    l.marks → NoneFrom files shape steps l.replies (map (λ v. v.items) l.found) (length l.replies - l.before)
