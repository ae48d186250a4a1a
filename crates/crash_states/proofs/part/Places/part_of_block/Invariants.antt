use Rattle.std.proofs.Common.{◌≤◌}
use Rattle.volume_codec.specs.Layout.{gate_block}
use Rattle.crash_states.proofs.part.Places.part_of_block.Given as goal

abbrev pub invariant-loop-journal : goal.invariant-loop-journal
invariant-loop-journal g l = gate_block l.self.table.slots l.journal ≤ l.block
