use Rattle.std.proofs.Common.{◌≡◌, map, take}
use Rattle.std.specs.List.{Contains}
use Rattle.crash_states.specs.Choices.{left_by}
use Rattle.crash_states.specs.declared.row.Found.{Found}
use Rattle.crash_states.specs.Held.{content_of}
use Rattle.crash_table.proofs.row.states.Given as goal

abbrev pub invariant-loop-choice : goal.invariant-loop-choice
invariant-loop-choice g l = record {
  each : (found : Found) → Contains l.states.items found
      → g.T.CrashedRun.leaves l.trial l.number (left_by found.choice (content_of l.contents)) found.mark;
  named : map (λ (f : Found). f.choice) l.states.items ≡ take l.choice-index l.choice-items;
}
