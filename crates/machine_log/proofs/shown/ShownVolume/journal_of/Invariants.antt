use Rattle.std.specs.Prelude.{ℕ, ◌<◌}
use Rattle.machine_log.specs.Shown.{IsOfJournal}
use Rattle.machine_log.proofs.shown.ShownVolume.journal_of.Given as goal

abbrev pub invariant-loop-journal : goal.invariant-loop-journal
invariant-loop-journal g l = (j : ℕ) → j < l.journal → IsOfJournal l.self-inside.geometry j l.block → ⊥
