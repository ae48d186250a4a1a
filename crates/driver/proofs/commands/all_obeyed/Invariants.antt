use Rattle.std.proofs.Common.{take}
use Rattle.driver.specs.Programs.{ObeysAll}
use Rattle.driver.proofs.commands.all_obeyed.Given as goal

abbrev pub invariant-loop-i : goal.invariant-loop-i
invariant-loop-i g l = ObeysAll (take l.i l.program) l.fn.cpu l.cpu
