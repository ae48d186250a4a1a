use Rattle.std.proofs.Common.{sym, ◌∙◌}
use Rattle.page_table.proofs.Trees.{past_root_block, past_middle_block}
use Rattle.page_table.proofs.nodes.past_gap.Goals as goal

pub returns-then-walk-eq0 : goal.returns-then-walk-eq0
returns-then-walk-eq0 c = past_root_block c.args.words.now c.args.page (sym c.walk.ensures ∙ c.if-walk-eq0.true)

pub returns-then-walk-eq0-2 : goal.returns-then-walk-eq0-2
returns-then-walk-eq0-2 c = past_middle_block c.args.words.now c.args.page (sym c.walk-2.ensures ∙ c.if-walk-eq0-2.true)
