use Rattle.std.proofs.Common.{ℕ, ◌<◌}
use Rattle.crash_states.specs.LogParts.{IsLogHomeOf}
use Rattle.crash_states.proofs.log_part.LogPlaces.home_of.Given as goal

abbrev pub invariant-loop-file : goal.invariant-loop-file
invariant-loop-file g l = (file page : ℕ) → file < l.file → IsLogHomeOf l.self.table file page l.block → ⊥
