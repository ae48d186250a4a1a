use Rattle.page_table.proofs.nodes.+walk.Given as goal

abbrev pub decreases-walk : goal.decreases-walk
decreases-walk l = l.depth
