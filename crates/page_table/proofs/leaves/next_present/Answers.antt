use Rattle.std.proofs.Common.{◌+◌, ◌-◌, ◌*◌, arith}
use Rattle.page_table.proofs.NextPage.{none_before, next_found, none_left}
use Rattle.page_table.proofs.leaves.next_present.Goals as goal

pub returns-in-Some-first_set : goal.returns-in-Some-first_set
returns-in-Some-first_set c =
    let inv = c.leaves.invariant in
    next_found c.args.words.now c.args.present.now c.requires.marks c.args.start c.leaves.page c.args.end
    c.in-Some.first c.walk-node.result inv.low inv.before c.in-Some.ensures c.walk-node.ensures
    c.in-Some-first_set.place c.below.result c.in-Some-first_set.ensures c.below.ensures

pub leaves-preserved : goal.leaves-preserved
leaves-preserved c =
    let inv = c.leaves.invariant in
    let found = c.in-Some.ensures in
    record {
      low = omega (arith, inv.low, found.low);
      before = λ q least most less. none_before c.args.words.now c.args.present.now c.requires.marks c.args.start
          c.leaves.page c.args.end c.in-Some.first c.walk-node.result inv.low inv.before found c.walk-node.ensures
          ((c.walk-node.result - 1 + 1) * 512) c.in_default-first_set.ensures q least less most (λ at. omega arith);
    }

pub returns : goal.returns
returns c =
    none_left c.args.words.now c.args.start c.leaves.page c.args.end c.leaves.invariant.before c.in_default.ensures
