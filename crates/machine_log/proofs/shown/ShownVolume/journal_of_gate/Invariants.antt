use Rattle.std.specs.Prelude.{◌≢◌, ℕ, ◌<◌}
use Rattle.volume_codec.specs.Layout.{gate_block}
use Rattle.machine_log.proofs.shown.ShownVolume.journal_of_gate.Given as goal

abbrev pub invariant-loop-journal : goal.invariant-loop-journal
invariant-loop-journal g l = (j : ℕ) → j < l.journal → l.block ≢ gate_block l.self-inside.geometry.slots j
