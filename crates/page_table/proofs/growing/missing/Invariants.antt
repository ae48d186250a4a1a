use Rattle.std.proofs.Common.{◌≡◌, ◌-◌}
use Rattle.page_table.specs.inside.Nodes.{missing}
use Rattle.page_table.proofs.growing.missing.Given as goal

-- the blocks so far are counted
abbrev pub invariant-loop-block : goal.invariant-loop-block
invariant-loop-block l = l.count ≡ missing l.words l.depth l.first (l.block - l.first)
