use Rattle.std.proofs.Common.{◌≡◌, map, take, Some}
use Rattle.serde_json.specs.View.{view}
use Rattle.scripts.specs.Arguments.{all_of}
use Rattle.scripts.specs.Threads.{program_of}
use Rattle.scripts.proofs.command.programs.Given as goal

abbrev pub invariant-loop-i : goal.invariant-loop-i
invariant-loop-i g l = all_of program_of (map view (take l.i l.values))
    ≡ Some (map (λ program. program.items) l.programs.items)
