use Rattle.std.proofs.Common.{◌+◌, ◌-◌, ◌*◌, ◌%◌, ℕ, set, sym, subst, arith}
use Rattle.page_table.specs.inside.Nodes.{LinksBlocks}
use Rattle.page_table.proofs.Links.{LinksBlocks-one}
use Rattle.page_table.proofs.growing.link.Goals as goal

pub returns : goal.returns
returns c =
    subst (λ (n : ℕ). LinksBlocks c.args.depth c.args.block (c.args.block + 1) c.args.used
    (c.args.used + 1) c.args.words.now (set c.args.words.now ((n - 1) * 512 + c.args.block % 512) (c.args.used + 1)))
    (sym c.walk-parent.ensures)
    (LinksBlocks-one c.args.words.now c.args.used c.requires.tree c.args.depth (c.args.depth - 1) c.args.block
    (omega arith) c.requires.least c.requires.parent c.requires.missing c.requires.room)
