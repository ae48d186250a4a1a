use Rattle.std.proofs.Common.{ℕ, ◌<◌}
use Rattle.crash_states.specs.Parts.{IsHomeOf}
use Rattle.crash_states.proofs.part.Places.home_of.Given as goal

abbrev pub invariant-loop-file : goal.invariant-loop-file
invariant-loop-file g l = (file page : ℕ) → file < l.file → IsHomeOf l.self.table file page l.block → ⊥
