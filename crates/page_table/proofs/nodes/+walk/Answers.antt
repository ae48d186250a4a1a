use Rattle.std.proofs.Common.{sym, ap, ◌∙◌, ◌%◌, cond, eqb, arith}
use Rattle.std.proofs.lemmas.Bool.Decides.{nat_tests}
use Rattle.page_table.specs.inside.Nodes.{word, read_by_walk}
use Rattle.page_table.proofs.Trees.{walk-zero, walk_deeper}
use Rattle.page_table.proofs.nodes.+walk.Goals as goal

pub returns-then-block-eq0 : goal.returns-then-block-eq0
returns-then-block-eq0 t c =
    sym (ap (λ d. read_by_walk c.args.words.now d c.args.block) c.if-depth-eq0.true
    ∙ walk-zero c.args.words.now c.args.block ∙ ap (λ b. cond (eqb b 0) 1 0) c.if-block-eq0.true)

pub returns-else-block-eq0 : goal.returns-else-block-eq0
returns-else-block-eq0 t c =
    sym (ap (λ d. read_by_walk c.args.words.now d c.args.block) c.if-depth-eq0.true
    ∙ walk-zero c.args.words.now c.args.block ∙ grind (arith, nat_tests))

pub returns : goal.returns
returns t c =
    c.word.ensures
    ∙ ap (λ n. word c.args.words.now n (c.args.block % 512)) c.walk.ensures
    ∙ sym (walk_deeper c.args.words.now c.args.depth c.args.block (omega arith))
