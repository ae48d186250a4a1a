use Rattle.std.proofs.Common.{◌-◌, arith}
use Rattle.std.proofs.lemmas.Bool.Decides.{nat_tests}
use Rattle.page_table.proofs.Links.{missing-most, missing-more}
use Rattle.page_table.proofs.growing.missing.Goals as goal
use Rattle.page_table.proofs.growing.missing.Goals.{then-walk-eq0, else-walk-eq0}

pub overflow_add-count : goal.overflow_add-count
overflow_add-count c = record {
  fits = omega (
    arith,
    c.loop-block.invariant,
    missing-most c.args.words.now c.args.depth c.args.first (c.loop-block.block - c.args.first),
    c.ranges.end.fits,
  );
}

pub loop-block-preserved : goal.loop-block-preserved
loop-block-preserved c =
    let more = missing-more c.args.words.now c.args.depth c.args.first c.loop-block.block c.loop-block.auto.block in
    elim c.if-walk-eq0.branch [
      | then-walk-eq0 w ↦ (let none = w.if-walk-eq0.true in let read = c.walk.ensures in let is = w.count-is in
          let inv = c.loop-block.invariant in grind (arith, nat_tests))
      | else-walk-eq0 w ↦ (let some = w.if-walk-eq0.false in let read = c.walk.ensures in let is = w.count-is in
          let inv = c.loop-block.invariant in grind (arith, nat_tests))
    ]
