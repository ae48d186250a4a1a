use Rattle.page_table.specs.inside.Nodes.{LinksBlocks}
use Rattle.page_table.proofs.growing.link_blocks.Given as goal

-- the blocks so far have nodes
abbrev pub invariant-loop-block : goal.invariant-loop-block
invariant-loop-block l = LinksBlocks l.depth l.first l.block l.used l.made l.fn.words l.words
