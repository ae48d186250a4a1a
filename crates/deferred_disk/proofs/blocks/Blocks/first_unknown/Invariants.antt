use Rattle.std.proofs.Common.{◌≡◌, ◌-◌}
use Rattle.deferred_disk.specs.Deferred.{first_unknown}
use Rattle.deferred_disk.proofs.blocks.Blocks.first_unknown.Given as goal

-- none of the blocks so far is unknown
abbrev pub invariant-loop-block : goal.invariant-loop-block
invariant-loop-block g l =
    first_unknown l.self.flags l.from (l.to - l.from) ≡ first_unknown l.self.flags l.block (l.to - l.block)
