use Rattle.std.proofs.Common.{rules, ◌≡◌, ◌<◌, true, false, length, IsTrue, sym, subst, ◌∙◌, arith}
use Rattle.crash_table.proofs.Reading.{same_more, other_items}
use Rattle.crash_table.proofs.files.are_same.Goals as goal

pub returns-then-not-is_same : goal.returns-then-not-is_same
returns-then-not-is_same g c =
    let left = c.args.left.now in
    let right = c.args.right.now in
    let first : c.loop-i.i < length left = search rules in
    let second : c.loop-i.i < length right = omega (arith, first, c.if-left-right.false) in
    let both = other_items (λ v. v.items) left right c.loop-i.i c.index-left-i.result c.index-right-i.result first
    second c.index-left-i.is c.index-right-i.is in (
      λ no. absurd (let e : false ≡ true = no in cc),
      λ same. subst IsTrue c.if-not-is_same.true
          (c.is_same.ensures.1 (c.as_slice.ensures.value ∙ both same ∙ sym c.as_slice-in-loop-i.ensures.value)),
    )

pub loop-i-preserved : goal.loop-i-preserved
loop-i-preserved g c =
    let left = c.args.left.now in
    let right = c.args.right.now in
    let first : c.loop-i.i < length left = search rules in
    let second : c.loop-i.i < length right = omega (arith, first, c.if-left-right.false) in
    let yes : IsTrue c.is_same.result = search rules in
    same_more (λ v. v.items) left right c.loop-i.i c.index-left-i.result c.index-right-i.result first second
    c.index-left-i.is c.index-right-i.is c.loop-i.invariant
    (sym c.as_slice.ensures.value ∙ c.is_same.ensures.0 yes ∙ c.as_slice-in-loop-i.ensures.value)
