use Rattle.std.proofs.Common.{◌≡◌, ◌*◌}
use Rattle.std.specs.Prelude.{slice_range}
use Rattle.deferred_disk.proofs.blocks.Blocks.run_of.Given as goal

-- the bytes of the blocks so far
abbrev pub invariant-loop-block : goal.invariant-loop-block
invariant-loop-block g l = l.run.items ≡ slice_range l.self.bytes (4096 * l.from) (4096 * l.block)
