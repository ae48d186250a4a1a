use Rattle.std.proofs.Common.{◌+◌, ◌-◌, ◌*◌, sym, ◌∙◌, arith}
use Rattle.page_table.proofs.Dirties.{blank_mask, leaf_mask_is}
use Rattle.page_table.proofs.dirty_pages.leaf_mask.Goals as goal

pub returns-then-node-eq0 : goal.returns-then-node-eq0
returns-then-node-eq0 c = blank_mask c.args.words.now c.args.block (sym c.walk-node.ensures ∙ c.if-node-eq0.true)

pub returns : goal.returns
returns c =
    leaf_mask_is c.args.words.now c.args.block c.walk-node.result
    ((c.walk-node.result - 1) * 512 + 512 - (c.walk-node.result - 1) * 512) c.in-Ok.entries.now c.dirty_mask.result
    c.walk-node.ensures (let some = c.if-node-eq0.false in
    omega arith) (omega arith) c.in-Ok.ensures.1.same c.dirty_mask.ensures
