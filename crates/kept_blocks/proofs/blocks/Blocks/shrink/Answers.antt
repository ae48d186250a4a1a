use Rattle.std.proofs.Common.{◌+◌, ap, ◌∙◌, arith}
use Rattle.kept_blocks.specs.Blocks.{Blocks, with_home, without_run, cut_in, homes_in}
use Rattle.kept_blocks.proofs.Changing.{shrunk_blocks, rise_weaker}
use Rattle.kept_blocks.proofs.blocks.Blocks.shrink.Goals as goal

pub returns-clause-ok : goal.returns-clause-ok
returns-clause-ok g c =
    let end = c.requires.rising.0 in
    let rise = rise_weaker c.args.first c.args.first end (end + c.args.first + 1) (homes_in c.args.self.now)
    (omega arith) (omega arith) c.requires.rising.1 in
    c.cut.ensures
    ∙ ap (λ (m : Blocks). cut_in m c.args.home c.args.left) (c.remove.ensures
    ∙ ap (λ (m : Blocks). without_run m c.args.low c.args.high) (c.in_ok-put.ensures.ok
    ∙ ap (with_home c.args.self.now c.args.first) c.in_ok-block.ensures.ok))
    ∙ shrunk_blocks c.args.self.now c.args.first (end + c.args.first + 1) c.args.home c.args.text.now rise
    c.requires.order.1 c.args.low c.args.high c.args.left c.requires.order.0 (omega arith)
