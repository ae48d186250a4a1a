use Rattle.std.proofs.Common.{arith}
use Rattle.page_table.proofs.Dirties.{IsFirstDirty-here, none_in_leaf, none_in_gap, none_past, wider}
use Rattle.page_table.proofs.dirty_pages.first_dirty.Goals as goal

pub returns-then-end-start-clause-first : goal.returns-then-end-start-clause-first
returns-then-end-start-clause-first c =
    none_past c.args.words.now c.args.start c.min-end.result c.args.end (omega (arith, c.min-end.ensures))
    (λ q low high. absurd (let le = c.if-end-start.true in omega arith))

pub returns-in-Some-clause-first : goal.returns-in-Some-clause-first
returns-in-Some-clause-first c =
    wider c.args.words.now c.args.start c.min-end.result c.args.end _ (omega (arith, c.min-end.ensures))
    (IsFirstDirty-here c.args.words.now c.args.mask.now c.args.start 0 c.args.start c.min-end.result c.in-Some.page
    c.requires.mask (omega arith) (λ q low high. absurd (omega arith)) c.in-Some.ensures)

pub leaves-init : goal.leaves-init
leaves-init c = record {
  low = omega arith;
  before = none_in_leaf c.args.words.now c.args.mask.now c.args.start c.args.start c.min-end.result c.requires.mask
      (λ q low high less. absurd (omega arith)) c.in_default.ensures;
}

pub returns-in-Some-first_of_leaf-clause-first : goal.returns-in-Some-first_of_leaf-clause-first
returns-in-Some-first_of_leaf-clause-first c =
    let inv = c.leaves.invariant in
    let found = c.in-Some-first_grown.ensures in
    let first = c.in-Some-first_grown.first in
    wider c.args.words.now c.args.start c.min-end.result c.args.end _ (omega (arith, c.min-end.ensures))
    (IsFirstDirty-here c.args.words.now c.leaf_mask-later.result c.args.start c.leaves.next first c.min-end.result
    c.in-Some-first_of_leaf.page c.leaf_mask-later.ensures (let low = found.low in let from = inv.low in omega arith)
    (λ q low high. none_in_gap c.args.words.now c.args.start c.leaves.next
    c.min-end.result first inv.before found.before q low high (let upto = found.high in
    omega arith)) c.in-Some-first_of_leaf.ensures)

pub leaves-preserved : goal.leaves-preserved
leaves-preserved c =
    let inv = c.leaves.invariant in
    let found = c.in-Some-first_grown.ensures in
    let first = c.in-Some-first_grown.first in
    record {
      low = (let low = found.low in let from = inv.low in omega arith);
      before = none_in_leaf c.args.words.now c.leaf_mask-later.result
          c.args.start first c.min-end.result c.leaf_mask-later.ensures
          (none_in_gap c.args.words.now c.args.start c.leaves.next c.min-end.result first inv.before found.before)
          c.in_default-first_of_leaf.ensures;
    }

pub returns-clause-first : goal.returns-clause-first
returns-clause-first c =
    let inv = c.leaves.invariant in
    none_past c.args.words.now c.args.start c.min-end.result c.args.end (omega (arith, c.min-end.ensures))
    (λ q low high. none_in_gap c.args.words.now c.args.start c.leaves.next c.min-end.result c.min-end.result inv.before
    c.in_default-first_grown.ensures q low high high)
