use Rattle.std.proofs.Common.{◌≡◌, map, take, Some}
use Rattle.scripts.specs.Arguments.{all_of}
use Rattle.traces.specs.Lines.{entry_in}
use Rattle.traces.specs.Traces.{entry_line}
use Rattle.traces.proofs.trace.entries.Given as goal

abbrev pub invariant-loop-i : goal.invariant-loop-i
invariant-loop-i g l = all_of entry_line (map (λ line. line.now) (take l.i l.lines))
    ≡ Some (map entry_in l.entries.items)
